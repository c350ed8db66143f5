-- Every instant of a draft ends: an order, finished or broken off anywhere, is no longer than the summed weight of what it
-- starts with, a watch weighing 1 and its body, and from every multiset and store there is a finished order.
--     total           summed over the copies and the input tokens that an order starts with
--     ItemsBelow, CopiesBelow     every agent of a multiset, of a list of copies, is one of the draft's
--     WeightBound     the length of any order
--     Finishes        from any multiset and store there is a finished order
use mathlib.Core.List.{List, [], ◌∷◌, Memᴰ}
use Rattle.std.specs.Prelude.{ℕ, ◌+◌, ◌<◌, ◌≤◌, length}
use Rattle.tcc.specs.Weight.{IsWeight}
use Rattle.draft_language.specs.Draft.{Draft, whens, LawfulDraft}
use Rattle.draft_language.specs.Order.{Copy, Item, copy, End, Order, Finished, start}

abbrev pub total : (ℕ → ℕ) → List Copy → List ℕ → ℕ
total w [] inputs = length inputs
total w (c ∷ copies) inputs = w c.agent + total w copies inputs

abbrev pub ItemsBelow : Draft → List Item → Type 0
ItemsBelow d l = (i : ℕ) (set : List ℕ) → Memᴰ (copy i set) l → i < length d.agents

abbrev pub CopiesBelow : Draft → List Copy → Type 0
CopiesBelow d copies = (c : Copy) → Memᴰ c copies → c.agent < length d.agents

abbrev pub WeightBound : Type 0
WeightBound =
    (d : Draft) (w : ℕ → ℕ) (copies : List Copy) (inputs s : List ℕ) (steps : List Item) (e : End) →
    LawfulDraft d → IsWeight (whens d) w → CopiesBelow d copies → Order d (start copies inputs) s steps e →
    length steps ≤ total w copies inputs

abbrev pub Finishes : Type 0
Finishes =
    (d : Draft) (l : List Item) (s : List ℕ) → LawfulDraft d → ItemsBelow d l →
    (steps : List Item) × (e : End) × Order d l s steps e × Finished d e
