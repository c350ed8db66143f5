-- "The number of instants run since the start, aborted ones included" (W7): over a list of calls of the instant and of the run,
-- refused ones included, at the contracts of the exported functions.
--     Advances           the number in the last state is the number in the first plus the answered instants, never past the
--                        last number
--     CueNumbers         an answered instant is played at the number in the first state plus the answered instants before it
--     JournalNumber      a journal of n instants begun at the start leaves the number n, and the journal check counts as many
--     StoppedThere       18 is answered at the last number alone: by an instant call from there, and by a run that has come
--                        there, whose value is the instants on the way; 15 is never answered there
--     NumberCounts       all four
use Rattle.std.specs.Prelude.{◌≡◌, List, ◌∷◌, ◌++◌, ℕ, ◌+◌, ◌<◌, ◌≤◌, length}
use Rattle.format.specs.Decode.{decode}
use Rattle.check_verdicts.specs.Verdicts.{verdict_number}
use Rattle.check_score.specs.Check.{verdict}
use Rattle.bits.specs.Bits.{bytes_of}
use Rattle.lent.specs.Lengths.{scratch_bytes}
use Rattle.lent.specs.States.{instant_number, start_bytes, last_number}
use Rattle.instant_call.specs.InstantCall.{Lent}
use Rattle.journal_run.specs.RunCall.{Lent as RunLent}
use Rattle.score_answer.specs.Answer.{number_in, value_in}
use Rattle.score.specs.Slice.{Slice}
use Rattle.score.specs.ScoreInstant.{ScoreInstant}
use Rattle.score.specs.ScoreRun.{ScoreRun}
use Rattle.score.specs.ScoreJournalCheck.{ScoreJournalCheck}
use Rattle.claims_demands.specs.Calls.{Call, InTurn, Answered, Answers, written}
use Rattle.claims_demands.specs.JournalExact.{start_history}

abbrev pub Advances : Type 0
Advances =
    (score first last : List ℕ) (calls : List Call) (answered : List Answered) → Slice first → InTurn score first calls last → Answers score calls answered →
    (instant_number last ≡ instant_number first + length answered) × (instant_number last ≤ last_number)

abbrev pub CueNumbers : Type 0
CueNumbers =
    (score first last : List ℕ) (calls : List Call) (earlier later : List Answered) (p : Answered) → Slice first → InTurn score first calls last → Answers score calls (earlier ++ p ∷ later) →
    instant_number p.before ≡ instant_number first + length earlier

abbrev pub JournalNumber : Type 0
JournalNumber =
    (score inputs : List ℕ) (before after : RunLent) (answer : ℕ) → before.state ≡ start_bytes (decode score) → ScoreRun score inputs before after answer →
    (instant_number after.state ≡ written answer)
    × ((scratch scratch' : List ℕ) (checked : ℕ) → verdict_number (verdict score) ≡ 0 → length scratch ≡ scratch_bytes →
    ScoreJournalCheck score (bytes_of (start_history score inputs (written answer))) scratch scratch' checked →
    (number_in checked ≡ 0) × (value_in checked ≡ instant_number after.state))

abbrev pub StoppedThere : Type 0
StoppedThere =
    ((score input : List ℕ) (before after : Lent) (answer : ℕ) → ScoreInstant score input before after answer → number_in answer ≡ 18 → instant_number before.state ≡ last_number)
    × ((score inputs : List ℕ) (before after : RunLent) (answer : ℕ) → Slice before.state → ScoreRun score inputs before after answer →
    (number_in answer ≡ 18 → (instant_number after.state ≡ last_number) × (instant_number before.state + value_in answer ≡ last_number))
    × (number_in answer ≡ 15 → instant_number after.state < last_number))

abbrev pub NumberCounts : Type 0
NumberCounts = Advances × CueNumbers × JournalNumber × StoppedThere
