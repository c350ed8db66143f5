-- For a rigger: where a token of a copy's set is in the store at quiet, nothing of that copy is awake next.
--     StoppedAct     with that copy or without it, the same is awake next; and no copy that is awake next, whichever copies
--                    were left, stands under a token of that store
use Rattle.std.specs.Prelude.{◌≡◌, ℕ}
use mathlib.Core.List.{List, Memᴰ}
use Rattle.draft_language.specs.Draft.{Draft}
use Rattle.draft_language.specs.Order.{Copy, Item, copy, Pick, awake_next}

abbrev pub StoppedAct : Type 0
StoppedAct =
    ((d : Draft) (s : List ℕ) (l k : List Item) (i : ℕ) (set : List ℕ) (t : ℕ) → Pick (copy i set) l k → Memᴰ t set → Memᴰ t s → awake_next d s l ≡ awake_next d s k)
    × ((d : Draft) (s : List ℕ) (l : List Item) (c : Copy) → Memᴰ c (awake_next d s l) → (t : ℕ) → Memᴰ t c.under → Memᴰ t s → ⊥)
