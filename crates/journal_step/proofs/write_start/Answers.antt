-- Where the score stands at the start, as bytes.
use Rattle.std.proofs.Common.{ap, ◌∙◌}
use mathlib.Core.Path.{subst⁻¹}
use Rattle.format.specs.Decode.{sizes, decode}
use Rattle.lent.specs.States.{numbered, start_bytes, LawfulState}
use Rattle.instant_state.specs.Standing.{state_in}
use Rattle.journal_step.proofs.Starts.{start_lawful, start_bytes_lem}
use Rattle.journal_step.proofs.write_start.Goals as goal

pub write_standing-requires-clause-lawful_state : goal.write_standing-requires-clause-lawful_state
write_standing-requires-clause-lawful_state c =
    let p = c.prepare-prepared.result in
    subst⁻¹ (λ n. LawfulState n (state_in c.start-standing.result)) c.agents.ensures
    (subst⁻¹ (LawfulState (sizes p.bytes.now).agents) c.start-standing.ensures (start_lawful p.bytes.now p.playable))

pub returns : goal.returns
returns c =
    let p = c.prepare-prepared.result in
    c.write_standing.ensures
    ∙ ap (λ st. numbered st 0) c.start-standing.ensures
    ∙ start_bytes_lem p.bytes.now p.playable
    ∙ ap (λ s. start_bytes (decode s)) c.prepare-prepared.ensures
