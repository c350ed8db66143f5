-- Sets as flags: flag i says whether i is in the set.
--     set_of         the numbers flagged, rising
--     flags_of        n flags for a set
use Rattle.std.specs.Prelude.{Bool, false, List, map, ℕ, length, get_or}
use Rattle.laws.specs.Sets.{below, keep, has}

unfoldable pub set_of : List Bool → List ℕ
set_of flags = keep (λ i. get_or flags i false) (below (length flags))

unfoldable pub flags_of : ℕ → List ℕ → List Bool
flags_of n set = map (λ i. has i set) (below n)
