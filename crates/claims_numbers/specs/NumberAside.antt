-- What a score plays does not depend on the number, below the limit: calls on states that differ in their numbers alone answer
-- alike and leave every buffer alike, but for the number in the state.
--     Instants, Runs, Settings     at the contracts of the exported functions: of instant calls below the last number, of runs
--                                  that do not come past it, and of counts of settings, which ignore it
--     Checks                       of a journal check, which starts at 0, by its definition: from such states, where there are
--                                  no more instants than are left, it replies the same
--     NumberAside                  all four
use Rattle.std.specs.Prelude.{◌≡◌, List, ℕ, ◌+◌, ◌<◌, ◌≤◌, length}
use Rattle.lent.specs.States.{instant_number, last_number, SameButNumber}
use Rattle.instant_call.specs.InstantCall.{Lent, lent}
use Rattle.journal_instants.specs.Instants.{input_lists}
use Rattle.journal_run.specs.RunCall.{Lent as RunLent, lent as lent_to_run}
use Rattle.journal_check.specs.Check.{check_from}
use Rattle.score.specs.ScoreInstant.{ScoreInstant}
use Rattle.score.specs.ScoreRun.{ScoreRun}
use Rattle.score.specs.ScoreSettings.{ScoreSettings}

abbrev pub Instants : Type 0
Instants =
    (score input s t store output scratch : List ℕ) (after₁ after₂ : Lent) (a b : ℕ) → SameButNumber s t → instant_number s < last_number → instant_number t < last_number →
    ScoreInstant score input (lent s store output scratch) after₁ a → ScoreInstant score input (lent t store output scratch) after₂ b →
    (a ≡ b) × SameButNumber after₁.state after₂.state × (after₁.store ≡ after₂.store) × (after₁.output ≡ after₂.output) × (after₁.scratch ≡ after₂.scratch)

abbrev pub Runs : Type 0
Runs =
    (score inputs s t journal scratch : List ℕ) (after₁ after₂ : RunLent) (a b : ℕ) → SameButNumber s t →
    instant_number s + length (input_lists inputs) ≤ last_number → instant_number t + length (input_lists inputs) ≤ last_number →
    ScoreRun score inputs (lent_to_run s journal scratch) after₁ a → ScoreRun score inputs (lent_to_run t journal scratch) after₂ b →
    (a ≡ b) × SameButNumber after₁.state after₂.state × (after₁.journal ≡ after₂.journal) × (after₁.scratch ≡ after₂.scratch)

abbrev pub Settings : Type 0
Settings =
    (score s t switches : List ℕ) (k a b : ℕ) → SameButNumber s t → ScoreSettings score s switches k a → ScoreSettings score t switches k b → a ≡ b

abbrev pub Checks : Type 0
Checks =
    (score s t : List ℕ) (read : ℕ) (instants : List (List ℕ)) → SameButNumber s t →
    instant_number s + length instants ≤ last_number → instant_number t + length instants ≤ last_number →
    check_from score s read instants ≡ check_from score t read instants

abbrev pub NumberAside : Type 0
NumberAside = Instants × Runs × Settings × Checks
