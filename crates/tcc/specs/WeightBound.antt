-- Every instant ends: an order, finished or broken off anywhere, is no longer than the summed weight of what it
-- starts with, and every order can be carried on to a finished one.
--     ItemsBelow      every agent of a multiset is one of the score's
--     OneWeight       of an accepted score the equations of weight have exactly one solution on its agents, the computed one
--     WeightBound     the length of any order
--     Finishes        from any multiset and store there is a finished order
--     CarriesOn       so has every order that broke off a way to go on that is finished
use Rattle.std.specs.Prelude.{◌≡◌, ℕ, ◌<◌, ◌≤◌, length}
use mathlib.Core.List.{List, ◌++◌, Memᴰ}
use Rattle.tcc.specs.Score.{Score}
use Rattle.tcc.specs.Lawful.{Lawful, AgentsBelow}
use Rattle.tcc.specs.Order.{Item, agent, End, left, Order, Finished, start}
use Rattle.tcc.specs.Weight.{IsWeight, weight, total}

abbrev pub ItemsBelow : Score → List Item → Type 0
ItemsBelow sc l = (i : ℕ) → Memᴰ (agent i) l → i < length sc.agents

abbrev pub OneWeight : Type 0
OneWeight =
    (sc : Score) → Lawful sc →
    IsWeight sc (weight sc) × ((w : ℕ → ℕ) → IsWeight sc w → (i : ℕ) → i < length sc.agents → w i ≡ weight sc i)

abbrev pub WeightBound : Type 0
WeightBound =
    (sc : Score) (w : ℕ → ℕ) (agents inputs s : List ℕ) (steps : List Item) (e : End) →
    Lawful sc → IsWeight sc w → AgentsBelow sc agents → Order sc (start agents inputs) s steps e →
    length steps ≤ total w agents inputs

abbrev pub Finishes : Type 0
Finishes =
    (sc : Score) (l : List Item) (s : List ℕ) → Lawful sc → ItemsBelow sc l →
    (steps : List Item) × (e : End) × Order sc l s steps e × Finished sc e

abbrev pub CarriesOn : Type 0
CarriesOn =
    (sc : Score) (l k steps : List Item) (s s' : List ℕ) → Lawful sc → ItemsBelow sc l → Order sc l s steps (left k s') →
    (more : List Item) × (e : End) × Order sc l s (steps ++ more) e × Finished sc e
