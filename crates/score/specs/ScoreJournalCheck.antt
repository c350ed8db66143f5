-- What a call of score_journal_check does: it writes only the scratch, and returns its reply as a number.
--     ScoreJournalCheck     the call's contract, over the bytes of the score, of the journal, of the scratch before and
--                           after, and the number returned
--     OneExit               it settles every byte of the scratch and the number returned
use Rattle.std.specs.Prelude.{◌≡◌, List, ℕ}
use Rattle.journal_check.specs.JournalCheckCall.{exit}
use Rattle.score_answer.specs.Answer.{packed}
use Rattle.score_answer.specs.Replies.{of_run_reply}
use Rattle.score.specs.Slice.{Slice}

pub record ScoreJournalCheck (score journal before after : List ℕ) (answer : ℕ) : Type 0 where
  pub lent : Slice journal
  pub written : after ≡ (exit score journal before).scratch
  pub answered : answer ≡ packed (of_run_reply (exit score journal before).reply)

abbrev pub OneExit : Type 0
OneExit =
    (score journal before after₁ after₂ : List ℕ) (a b : ℕ) →
    ScoreJournalCheck score journal before after₁ a → ScoreJournalCheck score journal before after₂ b → (after₁ ≡ after₂) × (a ≡ b)
