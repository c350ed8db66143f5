-- For a rigger: where the count of a status is not 0, there is something to look for.
--     SomeSetting      some k of the switches, with which every instant call from the state ends so
use Rattle.std.specs.Prelude.{◌≡◌, List, ℕ, ◌<◌}
use Rattle.settings_tried.specs.AllSettings.{Setting}
use Rattle.score_answer.specs.Answer.{settings_in}
use Rattle.score.specs.ScoreSettings.{ScoreSettings}
use Rattle.claims_settings.specs.Tried.{Tried}

abbrev pub SomeSetting : Type 0
SomeSetting =
    (score state switches : List ℕ) (k answer status : ℕ) → ScoreSettings score state switches k answer → 0 < settings_in answer status →
    (set : List ℕ) × Setting k switches set × ((ends : ℕ) → Tried score state set ends → ends ≡ status)
