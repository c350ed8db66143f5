-- What a call of score_translate does: it returns the reply of the translation on the bytes lent, packed, and the buffer for
-- the plain score holds what the translation leaves in it.
--     ScoreTranslate    the call's contract, over the bytes of the draft, of the buffer before and after, and the number
--                       returned
--     OneExit           it settles every byte of the buffer and the number returned
use Rattle.std.specs.Prelude.{◌≡◌, List, ℕ}
use Rattle.draft_call.specs.TranslateCall.{exit}
use Rattle.score_answer.specs.Answer.{packed}
use Rattle.score_answer.specs.Replies.{of_translation}
use Rattle.score.specs.Slice.{Slice}

pub record ScoreTranslate (draft before after : List ℕ) (answer : ℕ) : Type 0 where
  pub lent : Slice draft
  pub written : after ≡ (exit draft before).plain
  pub answered : answer ≡ packed (of_translation (exit draft before).reply)

abbrev pub OneExit : Type 0
OneExit =
    (draft before after₁ after₂ : List ℕ) (a b : ℕ) →
    ScoreTranslate draft before after₁ a → ScoreTranslate draft before after₂ b → (after₁ ≡ after₂) × (a ≡ b)
