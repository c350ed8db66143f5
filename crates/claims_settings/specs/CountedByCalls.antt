-- The three numbers are those that a console would count if it tried each setting with the instant call.
--     CountedByCalls      where `ends` says how such a call ended, for each setting
use Rattle.std.specs.Prelude.{◌≡◌, ℕ, ◌≤◌, eqb, length}
use mathlib.Core.List.{List, Memᴰ}
use Rattle.laws.specs.Sets.{keep}
use Rattle.settings_tried.specs.Settings.{settings}
use Rattle.score_answer.specs.Answer.{number_in, settings_in}
use Rattle.score.specs.ScoreSettings.{ScoreSettings}
use Rattle.claims_settings.specs.Tried.{Tried}

abbrev pub CountedByCalls : Type 0
CountedByCalls =
    (score state switches : List ℕ) (k answer : ℕ) → ScoreSettings score state switches k answer → number_in answer ≡ 0 →
    (ends : List ℕ → ℕ) → ((set : List ℕ) → Memᴰ set (settings k switches) → Tried score state set (ends set)) →
    (status : ℕ) → status ≤ 2 → settings_in answer status ≡ length (keep (λ set. eqb (ends set) status) (settings k switches))
