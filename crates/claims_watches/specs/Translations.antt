-- An accepted translation, as its caller has it.
--     plain_in         the bytes of the plain score: as many as the answer says
--     Translated       the call meets the contract of score_translate and answers 0
use Rattle.std.specs.Prelude.{◌≡◌, List, ℕ, take}
use Rattle.score_answer.specs.Answer.{number_in, value_in}
use Rattle.score.specs.ScoreTranslate.{ScoreTranslate}

abbrev pub plain_in : List ℕ → ℕ → List ℕ
plain_in after answer = take (value_in answer) after

pub record Translated (draft before after : List ℕ) (answer : ℕ) : Type 0 where
  pub called : ScoreTranslate draft before after answer
  pub accepted : number_in answer ≡ 0
