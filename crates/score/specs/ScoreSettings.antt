-- What a call of score_settings does: it writes nothing, and returns its reply as a number.
--     ScoreSettings     the call's contract, over the bytes of the score, of the state and of the switches, how many are
--                       pressed, and the number returned
--     OneExit           it settles the number returned
--     OneAnswer         two calls that return the same number replied the same
use Rattle.std.specs.Prelude.{◌≡◌, List, ℕ}
use Rattle.settings_call.specs.SettingsCall.{reply}
use Rattle.score_answer.specs.Answer.{packed}
use Rattle.score_answer.specs.Replies.{of_settings}

pub record ScoreSettings (score state switches : List ℕ) (k answer : ℕ) : Type 0 where
  pub answered : answer ≡ packed (of_settings (reply score state switches k))

abbrev pub OneExit : Type 0
OneExit = (score state switches : List ℕ) (k a b : ℕ) → ScoreSettings score state switches k a → ScoreSettings score state switches k b → a ≡ b

abbrev pub OneAnswer : Type 0
OneAnswer =
    (score₁ state₁ switches₁ score₂ state₂ switches₂ : List ℕ) (k₁ k₂ a : ℕ) →
    ScoreSettings score₁ state₁ switches₁ k₁ a → ScoreSettings score₂ state₂ switches₂ k₂ a →
    reply score₁ state₁ switches₁ k₁ ≡ reply score₂ state₂ switches₂ k₂
