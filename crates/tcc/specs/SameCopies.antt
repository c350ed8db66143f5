-- Beyond the request: the copies too are settled. Two finished, unaborted orders from one multiset have the same length
-- and leave the same multiset awake.
--     copies_of      how many copies of a number a list has
--     SameCopies     the claim
use Rattle.std.specs.Prelude.{◌≡◌, cond, List, [], ◌∷◌, ℕ, suc, length, eqb}
use Rattle.tcc.specs.Score.{Score}
use Rattle.tcc.specs.Lawful.{Lawful, AgentsBelow}
use Rattle.tcc.specs.Store.{Closes}
use Rattle.tcc.specs.Order.{Item, left, Order, Quiet, awake_next, start}

abbrev pub copies_of : ℕ → List ℕ → ℕ
copies_of n [] = 0
copies_of n (m ∷ l) = cond (eqb n m) (suc (copies_of n l)) (copies_of n l)

abbrev pub SameCopies : Type 0
SameCopies =
    (sc : Score) (agents inputs s s₁ s₂ : List ℕ) (steps₁ l₁ steps₂ l₂ : List Item) →
    Lawful sc → AgentsBelow sc agents → Closes sc [] s →
    Order sc (start agents inputs) s steps₁ (left l₁ s₁) → Quiet sc l₁ s₁ →
    Order sc (start agents inputs) s steps₂ (left l₂ s₂) → Quiet sc l₂ s₂ →
    (length steps₁ ≡ length steps₂) × ((i : ℕ) → copies_of i (awake_next sc l₁) ≡ copies_of i (awake_next sc l₂))
