-- What a call of score_instant does: it returns the reply of the instant call on the bytes lent, packed, and the four
-- buffers that it may write hold what that call leaves in them.
--     ScoreInstant      the call's contract, over the bytes of the score and of the input, of the four buffers before
--                       and after, and the number returned
--     OneExit           it settles every byte of those buffers and the number returned
--     OneAnswer         two calls that return the same number replied the same
use Rattle.std.specs.Prelude.{◌≡◌, List, ℕ}
use Rattle.instant_call.specs.InstantCall.{Lent, exit}
use Rattle.score_answer.specs.Answer.{packed}
use Rattle.score_answer.specs.Replies.{of_reply}

pub record ScoreInstant (score input : List ℕ) (before after : Lent) (answer : ℕ) : Type 0 where
  pub written : after ≡ (exit score input before).lent
  pub answered : answer ≡ packed (of_reply (exit score input before).reply)

abbrev pub OneExit : Type 0
OneExit =
    (score input : List ℕ) (before after₁ after₂ : Lent) (a b : ℕ) →
    ScoreInstant score input before after₁ a → ScoreInstant score input before after₂ b → (after₁ ≡ after₂) × (a ≡ b)

abbrev pub OneAnswer : Type 0
OneAnswer =
    (score₁ input₁ score₂ input₂ : List ℕ) (before₁ after₁ before₂ after₂ : Lent) (a : ℕ) →
    ScoreInstant score₁ input₁ before₁ after₁ a → ScoreInstant score₂ input₂ before₂ after₂ a →
    (exit score₁ input₁ before₁).reply ≡ (exit score₂ input₂ before₂).reply
