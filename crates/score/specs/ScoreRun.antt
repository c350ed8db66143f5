-- What a call of score_run does: what the run leaves in the lent buffers, and its reply as a number.
--     ScoreRun          the call's contract, over the bytes of the score and of the input list, of the three buffers
--                       before and after, and the number returned
--     OneExit           it settles every byte of those buffers and the number returned
use Rattle.std.specs.Prelude.{◌≡◌, List, ℕ}
use Rattle.journal_run.specs.RunCall.{Lent, exit}
use Rattle.score_answer.specs.Answer.{packed}
use Rattle.score_answer.specs.Replies.{of_run_reply}
use Rattle.score.specs.Slice.{Slice}

pub record ScoreRun (score inputs : List ℕ) (before after : Lent) (answer : ℕ) : Type 0 where
  pub lent : Slice inputs
  pub written : after ≡ (exit score inputs before).lent
  pub answered : answer ≡ packed (of_run_reply (exit score inputs before).reply)

abbrev pub OneExit : Type 0
OneExit =
    (score inputs : List ℕ) (before after₁ after₂ : Lent) (a b : ℕ) →
    ScoreRun score inputs before after₁ a → ScoreRun score inputs before after₂ b → (after₁ ≡ after₂) × (a ≡ b)
