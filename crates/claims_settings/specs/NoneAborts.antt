-- For a rigger: "if the count of 2 is 0 for k, no setting of k switches aborts", on any console that meets the contracts, and in
-- no order of reductions.
--     NoCallAborts      the instant call is accepted, and does not end with status 2
--     NoOrderAborts     nor does an order from any number of copies of the agents awake
--     NoneAborts        both
use Rattle.std.specs.Prelude.{◌≡◌, List, [], ℕ}
use Rattle.laws.specs.Sets.{Same}
use Rattle.tcc.specs.Store.{Closes}
use Rattle.tcc.specs.Order.{Item, aborted, Order, start}
use Rattle.format.specs.Decode.{decode}
use Rattle.lent.specs.States.{agents_in}
use Rattle.settings_tried.specs.AllSettings.{Setting}
use Rattle.score_answer.specs.Answer.{number_in, settings_in}
use Rattle.score.specs.ScoreSettings.{ScoreSettings}
use Rattle.claims_settings.specs.Tried.{Tried}

abbrev pub NoCallAborts : Type 0
NoCallAborts =
    (score state switches : List ℕ) (k answer : ℕ) → ScoreSettings score state switches k answer → number_in answer ≡ 0 → settings_in answer 2 ≡ 0 →
    (set : List ℕ) → Setting k switches set → (status : ℕ) (t : Tried score state set status) → (number_in t.answer ≡ 0) × (status ≡ 2 → ⊥)

abbrev pub NoOrderAborts : Type 0
NoOrderAborts =
    (score state switches : List ℕ) (k answer : ℕ) → ScoreSettings score state switches k answer → number_in answer ≡ 0 → settings_in answer 2 ≡ 0 →
    (set : List ℕ) → Setting k switches set →
    (copies s : List ℕ) (steps : List Item) → Same copies (agents_in state) → Closes (decode score) [] s → Order (decode score) (start copies set) s steps aborted → ⊥

abbrev pub NoneAborts : Type 0
NoneAborts = NoCallAborts × NoOrderAborts
