-- `play`: the run from the start state.
use Rattle.journal_run.specs.RunCall.{lent}
use Rattle.runner_run.proofs.Played.{played}
use Rattle.runner_run.proofs.play.Goals as goal

pub returns : goal.returns
returns c =
    let a = c.args in
    let r = c.score_run in
    played a.score.now a.inputs.now _ a.journal.now c.start-state.ensures.value (lent r.new.state r.new.journal r.new.scratch) r.result r.ensures c.number_in.ensures
