-- The order in which the switches are listed changes no answer, at the contract of the count of settings: not the three
-- numbers, and no refusal.
--     AnyOrder      of two calls that differ in that order alone
use Rattle.std.specs.Prelude.{◌≡◌, List, ℕ}
use Rattle.settings_tried.specs.AnyOrder.{Reordered}
use Rattle.score.specs.ScoreSettings.{ScoreSettings}

abbrev pub AnyOrder : Type 0
AnyOrder =
    (score state switches others : List ℕ) (k a b : ℕ) → Reordered switches others →
    ScoreSettings score state switches k a → ScoreSettings score state others k b → a ≡ b
