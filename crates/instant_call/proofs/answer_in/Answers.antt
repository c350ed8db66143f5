-- From where the score stands in the state.
use Rattle.std.proofs.Common.{ap, ◌∙◌}
use Rattle.tcc.specs.Instant.{answer}
use Rattle.format.specs.Decode.{decode}
use Rattle.flags.specs.Flags.{set_of}
use Rattle.instant_engine.specs.Outcome.{outcome_of}
use Rattle.instant_state.specs.Standing.{state_in}
use Rattle.instant_state.proofs.Standings.{standing_state}
use Rattle.instant_call.proofs.answer_in.Goals as goal

pub returns-clause-value : goal.returns-clause-value
returns-clause-value c =
    c.answer_from.ensures.value
    ∙ ap (λ st. outcome_of (answer (decode c.args.prepared.now.bytes.now) st (set_of c.args.inputs))) (ap state_in c.standing_in.ensures ∙ standing_state c.args.state.now)
