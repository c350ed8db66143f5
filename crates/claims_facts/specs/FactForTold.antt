-- For a rigger: a token that an agent tells at every instant can be made a standing fact, and nothing changes. So a season's
-- facts are moved into rules one by one, each move checked by its journals.
--     fact_word        the rule word that says a standing fact
--     AddsFact         two scores: the second is the first with the fact of a token put in among its rules, at any place
--     Alike            two consoles, one of which plays the score with the fact, from one state and given the same switches:
--                      where every unaborted instant's store has the token, they leave the same statuses, stores, outputs
--                      and states, instant by instant
--     JournalsStand    a journal that the check accepts for the score, in each unaborted instant of which the store has the
--                      token, it accepts for the score with the fact
--     FactForTold      both
use Rattle.std.specs.Prelude.{◌≡◌, ℕ, ◌+◌, ◌*◌, ◌^◌, ◌<◌, ◌≤◌, length}
use mathlib.Core.List.{List, ◌∷◌, ◌++◌, map, Memᴰ}
use Rattle.tcc.specs.Instant.{Answer, start_state, answers}
use Rattle.words.specs.Word.{words}
use Rattle.format.specs.Decode.{sizes, decode}
use Rattle.check_verdicts.specs.Verdicts.{verdict_number}
use Rattle.check_score.specs.Check.{verdict}
use Rattle.lent.specs.Lengths.{scratch_bytes}
use Rattle.lent_maps.specs.Maps.{tokens_in}
use Rattle.journal_instants.specs.Instants.{input_lists}
use Rattle.score_answer.specs.Answer.{number_in, value_in}
use Rattle.score.specs.ScoreJournalCheck.{ScoreJournalCheck}
use Rattle.claims_demands.specs.Calls.{Call, InTurn, Answered, Answers}

abbrev pub fact_word : ℕ → ℕ
fact_word t = 2 * 2 ^ 28 + 2 ^ 27 + t

pub record AddsFact (t : ℕ) (score score' : List ℕ) : Type 0 where
  pub accepted : verdict_number (verdict score) ≡ 0
  pub accepted' : verdict_number (verdict score') ≡ 0
  pub known : t < (sizes score).tokens
  pub front : List ℕ
  pub rest : List ℕ
  pub without : words score ≡ front ++ rest
  pub with_fact : words score' ≡ front ++ fact_word t ∷ rest
  pub among_rules : 2 + (sizes score).agents + (sizes score).procedures ≤ length front

abbrev pub Alike : Type 0
Alike =
    (t : ℕ) (score score' first last last' : List ℕ) (calls calls' : List Call) (answered answered' : List Answered) → AddsFact t score score' →
    InTurn score first calls last → Answers score calls answered → InTurn score' first calls' last' → Answers score' calls' answered' →
    map (λ p. p.inputs) answered ≡ map (λ p. p.inputs) answered' →
    ((p : Answered) → Memᴰ p answered → (p.status ≡ 2 → ⊥) → Memᴰ t (tokens_in p.store)) →
    (answered ≡ answered') × (last ≡ last')

abbrev pub JournalsStand : Type 0
JournalsStand =
    (t : ℕ) (score score' journal before after before' after' : List ℕ) (answer answer' : ℕ) → AddsFact t score score' →
    length before ≡ scratch_bytes → length before' ≡ scratch_bytes →
    ScoreJournalCheck score journal before after answer → ScoreJournalCheck score' journal before' after' answer' →
    ((a : Answer) → Memᴰ a (answers (decode score) (start_state (decode score)) (input_lists journal)) → (a.status ≡ 2 → ⊥) → Memᴰ t a.store) →
    number_in answer ≡ 0 → (number_in answer' ≡ 0) × (value_in answer' ≡ value_in answer)

abbrev pub FactForTold : Type 0
FactForTold = Alike × JournalsStand
