-- `start`: the state of an accepted score.
use Rattle.std.proofs.Common.{sym, ap, ◌∙◌}
use Rattle.std.specs.Result.{is_ok}
use Rattle.check_score.proofs.Stages.{playable}
use Rattle.runner_run.proofs.Played.{ok_accepted, err_refused}
use Rattle.runner_run.proofs.start.Goals as goal

pub write_start-requires-clause-playable : goal.write_start-requires-clause-playable
write_start-requires-clause-playable c = playable c.args.score.now (ok_accepted _ (ap is_ok (sym c.check.ensures) ∙ sym c.is_ok-accepted.ensures.value ∙ c.if-accepted.true))

pub returns-else-accepted-clause-value : goal.returns-else-accepted-clause-value
returns-else-accepted-clause-value c = λ z. absurd (err_refused _ (ap is_ok (sym c.check.ensures) ∙ sym c.is_ok-accepted.ensures.value ∙ c.if-accepted.false) z)
