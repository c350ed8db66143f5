-- A translation plays as its draft: "on every list over the draft's tokens, of any length, the plain score's journal from its
-- start is the one that the draft's definition gives", at the contracts of the exported functions.
--     ShowsTheDraft        every finished chain of draft orders shows exactly the history of the plain score, and there is
--                          one, up to and past an abort
--     RunsAsTheDraft       what a run of the plain score writes from its start is the draft's journal, of the instants written
--     ChecksAsTheDraft     the draft's journals are accepted for the plain score, up to the last number
--     TranslationExact     the score check accepts the plain score, and all three
use Rattle.std.specs.Prelude.{◌≡◌, ℕ, ◌*◌, ◌≤◌, length, take, drop}
use mathlib.Core.List.{List, ◌++◌, Memᴰ}
use Rattle.tcc.specs.Instant.{start_state}
use Rattle.format.specs.Decode.{decode}
use Rattle.check_verdicts.specs.Verdict.{Accepted}
use Rattle.check_score.specs.Check.{verdict}
use Rattle.bits.specs.Bits.{bytes_of}
use Rattle.lent.specs.States.{start_bytes, last_number}
use Rattle.lent.specs.Lengths.{scratch_bytes}
use Rattle.journal_instants.specs.Instants.{input_lists}
use Rattle.journal_words.specs.History.{history, RisingBelow}
use Rattle.journal_run.specs.RunCall.{Lent}
use Rattle.score_answer.specs.Answer.{number_in, value_in}
use Rattle.score.specs.ScoreRun.{ScoreRun}
use Rattle.score.specs.ScoreJournalCheck.{ScoreJournalCheck}
use Rattle.claims_demands.specs.Calls.{written}
use Rattle.draft_language.specs.Chain.{InputsKnown, Journal}
use Rattle.draft_format.specs.DraftFile.{decode_draft}
use Rattle.claims_watches.specs.Translations.{plain_in, Translated}

abbrev pub ShowsTheDraft : List ℕ → List ℕ → Type 0
ShowsTheDraft draft plain =
    (instants : List (List ℕ)) → InputsKnown (decode_draft draft).tokens instants →
    ((words : List ℕ) → Journal (decode_draft draft) instants words → words ≡ history (decode plain) (start_state (decode plain)) instants)
    × Journal (decode_draft draft) instants (history (decode plain) (start_state (decode plain)) instants)

abbrev pub RunsAsTheDraft : List ℕ → List ℕ → Type 0
RunsAsTheDraft draft plain =
    (inputs : List ℕ) (before after : Lent) (answer : ℕ) → before.state ≡ start_bytes (decode plain) → ScoreRun plain inputs before after answer →
    InputsKnown (decode_draft draft).tokens (input_lists inputs) →
    (words : List ℕ) → Journal (decode_draft draft) (take (written answer) (input_lists inputs)) words →
    after.journal ≡ bytes_of words ++ drop (4 * length words) before.journal

abbrev pub ChecksAsTheDraft : List ℕ → List ℕ → Type 0
ChecksAsTheDraft draft plain =
    (instants : List (List ℕ)) (words before after : List ℕ) (answer : ℕ) → InputsKnown (decode_draft draft).tokens instants →
    ((l : List ℕ) → Memᴰ l instants → RisingBelow (decode_draft draft).tokens l) → length instants ≤ last_number →
    Journal (decode_draft draft) instants words → length before ≡ scratch_bytes → ScoreJournalCheck plain (bytes_of words) before after answer →
    (number_in answer ≡ 0) × (value_in answer ≡ length instants)

abbrev pub TranslationExact : Type 0
TranslationExact =
    (draft before after : List ℕ) (answer : ℕ) → Translated draft before after answer →
    (verdict (plain_in after answer) ≡ Accepted) × ShowsTheDraft draft (plain_in after answer) × RunsAsTheDraft draft (plain_in after answer) × ChecksAsTheDraft draft (plain_in after answer)
