-- "Journals are judged against this reading, an old one with such words meeting 14." What a run wrote before, written out as
-- it was, and how the journal check answers it now, at its contract.
--     output_before, history_before   what went to the ports whatever the status, and the journal of that
--     Unclashed        no instant of a list has status 1
--     Kept             where none has, the journal is byte for byte what it was: 0, with the instants read
--     TurnedDown       where one has, it has good form and is turned down at the first such instant: 14
--     OldJournals      both, from the start state of an accepted score, up to the last number
use Rattle.std.specs.Prelude.{◌≡◌, ℕ, ◌≤◌, length}
use mathlib.Core.List.{List, [], ◌∷◌, ◌++◌, Memᴰ}
use Rattle.laws.specs.Sets.{keep, has}
use Rattle.tcc.specs.Score.{Score}
use Rattle.tcc.specs.Instant.{Answer, State, ports, start_state, answer, after, answers}
use Rattle.format.specs.Decode.{decode}
use Rattle.check_verdicts.specs.Verdicts.{verdict_number}
use Rattle.check_score.specs.Check.{verdict}
use Rattle.bits.specs.Bits.{bytes_of}
use Rattle.lent.specs.Lengths.{scratch_bytes}
use Rattle.lent.specs.States.{last_number}
use Rattle.journal_words.specs.History.{instant_words, history, RisingBelow}
use Rattle.score_answer.specs.Answer.{number_in, value_in}
use Rattle.score.specs.ScoreJournalCheck.{ScoreJournalCheck}

abbrev pub output_before : Score → List ℕ → List ℕ
output_before sc store = keep (λ t. has t store) (ports sc)

unfoldable pub history_before : Score → State → List (List ℕ) → List ℕ
history_before sc st [] = []
history_before sc st (inputs ∷ more) =
    instant_words (answer sc st inputs).status inputs (output_before sc (answer sc st inputs).store) ++ history_before sc (after (answer sc st inputs)) more

abbrev pub Unclashed : List Answer → Type 0
Unclashed l = (a : Answer) → Memᴰ a l → a.status ≡ 1 → ⊥

abbrev pub Kept : List ℕ → List (List ℕ) → ℕ → Type 0
Kept score inputs checked =
    let sc = decode score in
    Unclashed (answers sc (start_state sc) inputs) →
    (history_before sc (start_state sc) inputs ≡ history sc (start_state sc) inputs) × (number_in checked ≡ 0) × (value_in checked ≡ length inputs)

abbrev pub TurnedDown : List ℕ → List (List ℕ) → ℕ → Type 0
TurnedDown score inputs checked =
    let sc = decode score in
    (earlier later : List Answer) (a : Answer) → answers sc (start_state sc) inputs ≡ earlier ++ a ∷ later → Unclashed earlier → a.status ≡ 1 →
    (number_in checked ≡ 14) × (value_in checked ≡ length earlier)

abbrev pub OldJournals : Type 0
OldJournals =
    (score before after : List ℕ) (checked : ℕ) (inputs : List (List ℕ)) → verdict_number (verdict score) ≡ 0 → length before ≡ scratch_bytes →
    ((l : List ℕ) → Memᴰ l inputs → RisingBelow (decode score).tokens l) → length inputs ≤ last_number →
    ScoreJournalCheck score (bytes_of (history_before (decode score) (start_state (decode score)) inputs)) before after checked →
    Kept score inputs checked × TurnedDown score inputs checked
