-- The marks are the least fixed point, and status and store are read off them.
use Rattle.std.proofs.Common.{sym, ◌∙◌, rules}
use Rattle.format.specs.Decode.{decode}
use Rattle.flags.specs.Flags.{set_of}
use Rattle.instant_engine.proofs.Outcomes.{aborted_trial, quiet_trial}
use Rattle.instant_engine.proofs.try_instant.Goals as goal

pub returns-then-any_aborts : goal.returns-then-any_aborts
returns-then-any_aborts c =
    let marks = c.settle-store in
    aborted_trial (decode c.args.prepared.now.bytes.now) (set_of c.args.agents.now) (set_of c.args.inputs.now) (set_of marks.new.live) marks.result marks.ensures
    (sym c.if-any_aborts.true ∙ c.any_aborts.ensures)

pub returns : goal.returns
returns c =
    let marks = c.settle-store in
    quiet_trial (decode c.args.prepared.now.bytes.now) (set_of c.args.agents.now) (set_of c.args.inputs.now) (set_of marks.new.live) marks.result marks.ensures
    (sym c.if-any_aborts.false ∙ c.any_aborts.ensures) c.from.result (search rules) c.from.ensures
