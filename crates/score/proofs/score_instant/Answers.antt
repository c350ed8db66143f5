-- `score_instant`: the reply has room in an answer.
use Rattle.score.proofs.ScoreInstant.{called_fits}
use Rattle.score.proofs.score_instant.Goals as goal

pub of_reply-requires : goal.of_reply-requires
of_reply-requires c = called_fits c.call.ensures
