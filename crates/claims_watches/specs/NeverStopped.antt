-- For a rigger: where no watch token is ever in the store, the acts play as if nobody watched them.
--     NeverWatched      no watch token of a draft is in the store of any instant of a list from the plain score's start
--     unwatched_history  the history of the draft with every watch read as its body, from its start
--     NeverStopped      then the plain score's history is that of the draft with every watch read as its body, and that is
--                       what a run of the plain score writes from its start
use Rattle.std.specs.Prelude.{◌≡◌, ℕ, ◌*◌, length, take, drop}
use mathlib.Core.List.{List, ◌++◌, Memᴰ}
use Rattle.tcc.specs.Score.{Score}
use Rattle.tcc.specs.Instant.{Answer, start_state, answers}
use Rattle.format.specs.Decode.{decode}
use Rattle.bits.specs.Bits.{bytes_of}
use Rattle.lent.specs.States.{start_bytes}
use Rattle.journal_instants.specs.Instants.{input_lists}
use Rattle.journal_words.specs.History.{history}
use Rattle.journal_run.specs.RunCall.{Lent}
use Rattle.score.specs.ScoreRun.{ScoreRun}
use Rattle.claims_demands.specs.Calls.{written}
use Rattle.draft_language.specs.Draft.{Draft}
use Rattle.draft_language.specs.Chain.{InputsKnown}
use Rattle.draft_language.specs.Unwatched.{WatchToken, unwatched}
use Rattle.draft_format.specs.DraftFile.{decode_draft}
use Rattle.claims_watches.specs.Translations.{plain_in, Translated}

abbrev pub NeverWatched : Draft → Score → List (List ℕ) → Type 0
NeverWatched d sc instants = (a : Answer) → Memᴰ a (answers sc (start_state sc) instants) → (t : ℕ) → WatchToken d t → Memᴰ t a.store → ⊥

abbrev pub unwatched_history : List ℕ → List (List ℕ) → List ℕ
unwatched_history draft instants = history (unwatched (decode_draft draft)) (start_state (unwatched (decode_draft draft))) instants

abbrev pub NeverStopped : Type 0
NeverStopped =
    (draft before after : List ℕ) (answer : ℕ) → Translated draft before after answer →
    ((instants : List (List ℕ)) → InputsKnown (decode_draft draft).tokens instants → NeverWatched (decode_draft draft) (decode (plain_in after answer)) instants →
    history (decode (plain_in after answer)) (start_state (decode (plain_in after answer))) instants ≡ unwatched_history draft instants)
    × ((inputs : List ℕ) (lent left : Lent) (ran : ℕ) → lent.state ≡ start_bytes (decode (plain_in after answer)) →
    ScoreRun (plain_in after answer) inputs lent left ran → InputsKnown (decode_draft draft).tokens (input_lists inputs) →
    NeverWatched (decode_draft draft) (decode (plain_in after answer)) (take (written ran) (input_lists inputs)) →
    left.journal ≡ bytes_of (unwatched_history draft (take (written ran) (input_lists inputs))) ++ drop (4 * length (unwatched_history draft (take (written ran) (input_lists inputs)))) lent.journal)
