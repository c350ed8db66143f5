-- "The three numbers ... together they are the number of settings" (W6), at the contract of the count of settings.
--     AddUp      of an accepted call they add up to the binomial coefficient of the number of switches and k, and none is more
--                than 12,870
use Rattle.std.specs.Prelude.{◌≡◌, List, ℕ, ◌+◌, ◌≤◌, length}
use Rattle.settings_tried.specs.Binomial.{choose}
use Rattle.score_answer.specs.Answer.{number_in, settings_in}
use Rattle.score.specs.ScoreSettings.{ScoreSettings}

abbrev pub AddUp : Type 0
AddUp =
    (score state switches : List ℕ) (k answer : ℕ) → ScoreSettings score state switches k answer → number_in answer ≡ 0 →
    (settings_in answer 0 + settings_in answer 1 + settings_in answer 2 ≡ choose (length switches) k) × ((status : ℕ) → settings_in answer status ≤ 12870)
