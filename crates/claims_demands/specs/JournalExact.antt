-- "The journal is that history, and the journal check accepts exactly it", at the contracts of the exported functions. The
-- history is defined without the run and without the check (IsHistory).
--     Exactly            of an accepted score: the check answers 0 with n exactly if the bytes are the journal of n instants
--                        from the start state, for the journal's own inputs, and n is not past the last number
--     RunsAccepted       what a run writes from the start state, also where it is then stopped, is such a journal: the check
--                        accepts it, with the instants that the run wrote
--     JournalExact       both
use Rattle.std.specs.Prelude.{◌≡◌, List, ◌++◌, ℕ, ◌*◌, ◌≤◌, length, take, drop}
use Rattle.tcc.specs.Instant.{start_state}
use Rattle.format.specs.Decode.{decode}
use Rattle.check_verdicts.specs.Verdicts.{verdict_number}
use Rattle.check_score.specs.Check.{verdict}
use Rattle.bits.specs.Bits.{bytes_of}
use Rattle.lent.specs.States.{start_bytes, last_number}
use Rattle.lent.specs.Lengths.{scratch_bytes}
use Rattle.journal_instants.specs.Instants.{input_lists}
use Rattle.journal_words.specs.History.{history, IsHistory}
use Rattle.journal_run.specs.RunCall.{Lent}
use Rattle.score_answer.specs.Answer.{number_in, value_in}
use Rattle.score.specs.ScoreRun.{ScoreRun}
use Rattle.score.specs.ScoreJournalCheck.{ScoreJournalCheck}
use Rattle.claims_demands.specs.Calls.{written}

abbrev pub Exactly : Type 0
Exactly =
    (score journal before after : List ℕ) (answer n : ℕ) → verdict_number (verdict score) ≡ 0 → length before ≡ scratch_bytes →
    ScoreJournalCheck score journal before after answer →
    ((number_in answer ≡ 0) × (value_in answer ≡ n) → IsHistory (decode score) (start_state (decode score)) journal n × (n ≤ last_number))
    × (IsHistory (decode score) (start_state (decode score)) journal n → n ≤ last_number → (number_in answer ≡ 0) × (value_in answer ≡ n))

abbrev pub start_history : List ℕ → List ℕ → ℕ → List ℕ
start_history score inputs n = history (decode score) (start_state (decode score)) (take n (input_lists inputs))

abbrev pub RunsAccepted : Type 0
RunsAccepted =
    (score inputs : List ℕ) (before after : Lent) (answer : ℕ) → verdict_number (verdict score) ≡ 0 →
    before.state ≡ start_bytes (decode score) → ScoreRun score inputs before after answer →
    (after.journal ≡ bytes_of (start_history score inputs (written answer)) ++ drop (4 * length (start_history score inputs (written answer))) before.journal)
    × ((scratch scratch' : List ℕ) (checked : ℕ) → length scratch ≡ scratch_bytes →
    ScoreJournalCheck score (bytes_of (start_history score inputs (written answer))) scratch scratch' checked →
    (number_in checked ≡ 0) × (value_in checked ≡ written answer))

abbrev pub JournalExact : Type 0
JournalExact = Exactly × RunsAccepted
