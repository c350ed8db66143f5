-- `status_in`: by whether the score is running.
use Rattle.std.proofs.Common.{sym, ap, ◌∙◌}
use Rattle.tcc.specs.Instant.{answer}
use Rattle.format.specs.Decode.{decode}
use Rattle.flags.specs.Flags.{set_of}
use Rattle.instant_engine.specs.Outcome.{trial_of}
use Rattle.settings_tried.specs.Standing.{state_from}
use Rattle.settings_tried.proofs.status_in.Goals as goal

pub returns-then-running : goal.returns-then-running
unfolding answer trial_of
returns-then-running c =
    let a = c.args in
    ap (λ t. t.status) c.try_instant.ensures ∙ sym (ap (λ r. (answer (decode a.prepared.now.bytes.now) (state_from r a.awake.now) (set_of a.pressed.now)).status) c.if-running.true)

pub returns-else-running : goal.returns-else-running
unfolding answer
returns-else-running c =
    let a = c.args in
    sym (ap (λ r. (answer (decode a.prepared.now.bytes.now) (state_from r a.awake.now) (set_of a.pressed.now)).status) c.if-running.false)
