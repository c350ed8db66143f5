-- `score_run`: the reply has room in an answer.
use Rattle.std.proofs.Common.{arith}
use Rattle.score.proofs.ScoreRun.{called_fits}
use Rattle.score.proofs.score_run.Goals as goal

pub of_run_reply-requires : goal.of_run_reply-requires
of_run_reply-requires c = called_fits (record { few = omega (arith, c.well_formed.1.1.0.1); small = λ i. omega (arith, c.type_inv.inputs i) }) c.call.ensures
