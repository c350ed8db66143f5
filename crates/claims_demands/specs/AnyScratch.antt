-- What the scratch holds when it is lent does not matter: two calls that differ in that alone answer alike and leave every
-- other buffer alike.
--     AnyScratch       of an instant, of a run and of a journal check
use Rattle.std.specs.Prelude.{◌≡◌, List, ℕ, length}
use Rattle.instant_call.specs.InstantCall.{Lent, lent}
use Rattle.journal_run.specs.RunCall.{Lent as RunLent, lent as lent_to_run}
use Rattle.score.specs.ScoreInstant.{ScoreInstant}
use Rattle.score.specs.ScoreRun.{ScoreRun}
use Rattle.score.specs.ScoreJournalCheck.{ScoreJournalCheck}

abbrev pub Instants : Type 0
Instants =
    (score input state store output scratch₁ scratch₂ : List ℕ) (after₁ after₂ : Lent) (a b : ℕ) → length scratch₁ ≡ length scratch₂ →
    ScoreInstant score input (lent state store output scratch₁) after₁ a → ScoreInstant score input (lent state store output scratch₂) after₂ b →
    (a ≡ b) × (after₁.state ≡ after₂.state) × (after₁.store ≡ after₂.store) × (after₁.output ≡ after₂.output)

abbrev pub Runs : Type 0
Runs =
    (score inputs state journal scratch₁ scratch₂ : List ℕ) (after₁ after₂ : RunLent) (a b : ℕ) → length scratch₁ ≡ length scratch₂ →
    ScoreRun score inputs (lent_to_run state journal scratch₁) after₁ a → ScoreRun score inputs (lent_to_run state journal scratch₂) after₂ b →
    (a ≡ b) × (after₁.state ≡ after₂.state) × (after₁.journal ≡ after₂.journal)

abbrev pub JournalChecks : Type 0
JournalChecks =
    (score journal scratch₁ scratch₂ after₁ after₂ : List ℕ) (a b : ℕ) → length scratch₁ ≡ length scratch₂ →
    ScoreJournalCheck score journal scratch₁ after₁ a → ScoreJournalCheck score journal scratch₂ after₂ b → a ≡ b

abbrev pub AnyScratch : Type 0
AnyScratch = Instants × Runs × JournalChecks
