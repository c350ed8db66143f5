-- Determinacy along a list of instants.
--     Chain          finished, unaborted orders at each instant, each starting with the very multiset that the one
--                    before left awake; from the copies that the first starts with to those that the last leaves awake
--     Along          at the instant after a chain, for any order there: it is no longer than its weight, it ends as the
--                    state machine answers if it is finished, and there is a finished order; the state before it is running
use Rattle.std.specs.Prelude.{◌≡◌, List, [], ◌∷◌, ℕ, ◌≤◌, length}
use Rattle.laws.specs.Sets.{Same}
use Rattle.tcc.specs.Score.{Score}
use Rattle.tcc.specs.Lawful.{Lawful, AgentsBelow}
use Rattle.tcc.specs.Store.{Closes}
use Rattle.tcc.specs.Order.{Item, End, left, Order, Quiet, Finished, awake_next, start}
use Rattle.tcc.specs.Weight.{IsWeight, total}
use Rattle.tcc.specs.Instant.{State, running, answer, state_after}
use Rattle.tcc.specs.Confluence.{EndsAs}

pub data Chain (sc : Score) : List ℕ → List (List ℕ) → List ℕ → Type 0 where
  none : {copies : List ℕ} → Chain sc copies [] copies
  then : {copies awake inputs s s' : List ℕ} {rest : List (List ℕ)} {steps l : List Item} →
      Closes sc [] s → Order sc (start copies inputs) s steps (left l s') → Quiet sc l s' →
      Chain sc (awake_next sc l) rest awake → Chain sc copies (inputs ∷ rest) awake

pub record AtInstant (sc : Score) (w : ℕ → ℕ) (state : State) (copies inputs : List ℕ) : Type 0 where
  pub agents : List ℕ
  pub is_running : state ≡ running agents
  pub same_agents : Same copies agents
  pub bounded : (s : List ℕ) (steps : List Item) (e : End) → Order sc (start copies inputs) s steps e → length steps ≤ total w copies inputs
  pub ends : (s : List ℕ) (steps : List Item) (e : End) → Closes sc [] s → Order sc (start copies inputs) s steps e → Finished sc e → EndsAs sc e (answer sc state inputs)
  pub finishes : (s : List ℕ) → (steps : List Item) × (e : End) × Order sc (start copies inputs) s steps e × Finished sc e

abbrev pub Along : Type 0
Along =
    (sc : Score) (w : ℕ → ℕ) (agents copies awake inputs : List ℕ) (before : List (List ℕ)) →
    Lawful sc → IsWeight sc w → AgentsBelow sc agents → Same copies agents → Chain sc copies before awake →
    AtInstant sc w (state_after sc (running agents) before) awake inputs
