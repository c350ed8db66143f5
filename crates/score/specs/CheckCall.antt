-- What a call of score_check does: it writes nothing and returns the verdict on the bytes lent.
--     CheckCall      the call's contract, over the score's bytes and the number returned
--     OneExit        it settles the number returned
--     OneAnswer      two calls that return the same number found the same
use Rattle.std.specs.Prelude.{◌≡◌, List, ℕ}
use Rattle.check_score.specs.Check.{verdict}
use Rattle.score_answer.specs.Answer.{packed}
use Rattle.score_answer.specs.Replies.{of_verdict}

pub record CheckCall (score : List ℕ) (answer : ℕ) : Type 0 where
  pub answered : answer ≡ packed (of_verdict (verdict score))

abbrev pub OneExit : Type 0
OneExit = (score : List ℕ) (a b : ℕ) → CheckCall score a → CheckCall score b → a ≡ b

abbrev pub OneAnswer : Type 0
OneAnswer = (score₁ score₂ : List ℕ) (a : ℕ) → CheckCall score₁ a → CheckCall score₂ a → verdict score₁ ≡ verdict score₂
