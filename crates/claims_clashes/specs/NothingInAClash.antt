-- "The drive makers' rule is that a contradictory instant commands nothing. The output of a status 1 instant is empty and its
-- journal has no kind 14 words there; the store map still shows every token." At the contracts of the instant call and of
-- the run.
--     Commands         what an answered instant commands: where its store has token 0 the status is 1; at status 1 no bit of
--                      the output map is set, and the store map has all T tokens; at another status the output map has the
--                      store's tokens from the lowest to the highest port
--     AtTheCall        of each accepted instant call
--     AtTheRun         of each instant of a run; and one whose store has token 0 ends, in the journal, after its input words
--     NothingInAClash  both
use Rattle.std.specs.Prelude.{◌≡◌, ℕ, ◌*◌, length, take, drop, replicate}
use mathlib.Core.List.{List, [], ◌∷◌, ◌++◌, Memᴰ}
use Rattle.laws.specs.Sets.{below, keep, has}
use Rattle.tcc.specs.Score.{Score}
use Rattle.tcc.specs.Instant.{ports}
use Rattle.format.specs.Decode.{decode}
use Rattle.bits.specs.Bits.{bytes_of}
use Rattle.lent.specs.Lengths.{map_bytes}
use Rattle.lent_maps.specs.Maps.{tokens_in, map_of}
use Rattle.instant_call.specs.InstantCall.{Lent}
use Rattle.journal_instants.specs.Instants.{input_lists}
use Rattle.journal_words.specs.History.{instant_words}
use Rattle.journal_run.specs.RunCall.{Lent as RunLent}
use Rattle.score_answer.specs.Answer.{number_in}
use Rattle.score.specs.ScoreInstant.{ScoreInstant}
use Rattle.score.specs.ScoreRun.{ScoreRun}
use Rattle.claims_demands.specs.Calls.{Answered, answered_by, written, Plays}
use Rattle.claims_demands.specs.Determinacy.{shown_by}

pub record Commands (sc : Score) (p : Answered) : Type 0 where
  pub clash : Memᴰ 0 (tokens_in p.store) → p.status ≡ 1
  pub nothing : p.status ≡ 1 → p.output ≡ replicate map_bytes 0
  pub shown : p.status ≡ 1 → p.store ≡ map_of (below sc.tokens)
  pub otherwise : (p.status ≡ 1 → ⊥) → p.output ≡ map_of (keep (λ t. has t (tokens_in p.store)) (ports sc))

abbrev pub AtTheCall : Type 0
AtTheCall =
    (score input : List ℕ) (before after : Lent) (answer : ℕ) → ScoreInstant score input before after answer → number_in answer ≡ 0 →
    Commands (decode score) (answered_by (tokens_in input) before after answer)

-- the words of a run whose instant p clashes
abbrev pub clashed_words : List Answered → Answered → List Answered → List ℕ
clashed_words earlier p later = shown_by earlier ++ instant_words 1 p.inputs [] ++ shown_by later

abbrev pub AtTheRun : Type 0
AtTheRun =
    (score inputs : List ℕ) (before after : RunLent) (answer : ℕ) → ScoreRun score inputs before after answer →
    (earlier later : List Answered) (p : Answered) (last : List ℕ) → Plays score before.state (take (written answer) (input_lists inputs)) (earlier ++ p ∷ later) last →
    Commands (decode score) p
    × (Memᴰ 0 (tokens_in p.store) → after.journal ≡ bytes_of (clashed_words earlier p later) ++ drop (4 * length (clashed_words earlier p later)) before.journal)

abbrev pub NothingInAClash : Type 0
NothingInAClash = AtTheCall × AtTheRun
