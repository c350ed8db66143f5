-- Beyond the request, for a rigger: from one state there are settings that clash or settings that abort, and never both, whatever
-- switches are listed and however many are pressed. In a clash every token is in the store, so that every when goes on that
-- would go on in any setting; an abort that one of them led to would be led to in the clash.
--     NeverBoth      of any two counts from the same state
use Rattle.std.specs.Prelude.{List, ℕ, ◌<◌}
use Rattle.score_answer.specs.Answer.{settings_in}
use Rattle.score.specs.ScoreSettings.{ScoreSettings}

abbrev pub NeverBoth : Type 0
NeverBoth =
    (score state switches others : List ℕ) (k j a b : ℕ) → ScoreSettings score state switches k a → ScoreSettings score state others j b →
    0 < settings_in a 1 → 0 < settings_in b 2 → ⊥
