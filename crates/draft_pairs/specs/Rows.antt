-- Contracts of inner functions: a pair as numbers of 64 bits, the highest first.
--     row_value      the pair
use Rattle.std.specs.Prelude.{List, [], ◌∷◌, ℕ, ◌+◌, ◌*◌, ◌^◌}

unfoldable pub value_from : ℕ → List ℕ → ℕ
value_from v [] = v
value_from v (w ∷ row) = value_from (v * 2 ^ 64 + w) row

abbrev pub row_value : List ℕ → ℕ
row_value row = value_from 0 row
