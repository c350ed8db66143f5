-- `score_settings`: the reply has room in an answer.
use Rattle.score.proofs.ScoreSettings.{called_fits}
use Rattle.score.proofs.score_settings.Goals as goal

pub of_settings-requires : goal.of_settings-requires
of_settings-requires c = called_fits _ _ _ _ c.call.ensures
