-- For a rigger: if the count of 0 is the number of settings, each way of pressing k switches is harmless.
--     Harmless      the instant call is accepted, and ends with status 0
use Rattle.std.specs.Prelude.{◌≡◌, List, ℕ, length}
use Rattle.settings_tried.specs.AllSettings.{Setting}
use Rattle.settings_tried.specs.Binomial.{choose}
use Rattle.score_answer.specs.Answer.{number_in, settings_in}
use Rattle.score.specs.ScoreSettings.{ScoreSettings}
use Rattle.claims_settings.specs.Tried.{Tried}

abbrev pub Harmless : Type 0
Harmless =
    (score state switches : List ℕ) (k answer : ℕ) → ScoreSettings score state switches k answer → number_in answer ≡ 0 →
    settings_in answer 0 ≡ choose (length switches) k →
    (set : List ℕ) → Setting k switches set → (status : ℕ) (t : Tried score state set status) → (number_in t.answer ≡ 0) × (status ≡ 0)
