-- What the parts return is the instant.
use Rattle.std.proofs.Common.{refl, ap, ◌∙◌}
use lib.Dec.{leb}
use Rattle.laws.specs.Sets.{any}
use Rattle.flags.specs.Flags.{set_of}
use Rattle.instant_state.specs.Standing.{state_in}
use Rattle.journal_step.proofs.FromStanding.{stepped}
use Rattle.journal_step.proofs.step_from.Goals as goal

pub returns-clause-stepped : goal.returns-clause-stepped
returns-clause-stepped c =
    stepped c.args.prepared.now.bytes.now c.args.prepared.now.playable (state_in c.args.standing) c.requires.lawful_state c.args.told c.requires.by_index
    c.answer_from-outcome.result c.answer_from-outcome.ensures.value
    _ refl c.sent-out.ensures
    (c.any_from-unlawful.ensures ∙ ap (λ n. any (λ i. leb n i) (set_of c.answer_from-outcome.result.awake)) c.agents.ensures)
    c.standing_after.ensures
