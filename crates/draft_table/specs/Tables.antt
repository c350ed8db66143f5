-- Contracts of inner functions: a table of pairs in rising order.
--     keys           the pairs in use
--     Placed         how many pairs stand before one
--     Entered        what entering a pair leaves: the pair among the others, or no room for it
use Rattle.std.specs.Prelude.{◌≡◌, ℕ, ◌<◌, ◌≤◌, length, take, get_or, Option, IfSome, IfNone}
use mathlib.Core.List.{List, map, Memᴰ}
use Rattle.draft_pairs.specs.Pairs.{most_pairs, insert}
use Rattle.draft_pairs.specs.Rows.{row_value}

abbrev pub keys : ℕ → List (List ℕ) → List ℕ
keys count table = map row_value (take count table)

pub record Placed (l : List ℕ) (key at : ℕ) : Type 0 where
  pub within : at ≤ length l
  pub lower : (j : ℕ) → j < at → get_or l j 0 < key
  pub upper : (j : ℕ) → at ≤ j → j < length l → key ≤ get_or l j 0

pub record Entered (key count : ℕ) (before after : List (List ℕ)) (r : Option ℕ) : Type 0 where
  pub long : length after ≡ length before
  pub room : IfSome r (λ n. (n ≤ most_pairs) × (keys n after ≡ insert key (keys count before)) × (n ≡ length (insert key (keys count before))))
  pub full : IfNone r ((count ≡ most_pairs) × (Memᴰ key (keys count before) → ⊥))
