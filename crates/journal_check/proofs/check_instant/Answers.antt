-- The instant that the words tell, held against them.
use Rattle.words.specs.Word.{words}
use Rattle.format.specs.Decode.{sizes}
use Rattle.format.proofs.Decode.{sizes_few}
use Rattle.flags.specs.Flags.{set_of}
use Rattle.instant_state.specs.Standing.{state_in}
use Rattle.journal_step.proofs.FromStanding.{told_set, told_known, status_few}
use Rattle.journal_check.proofs.Others.{formed_wide}
use Rattle.journal_check.proofs.Holds.{held_unlawful, held_differs, accepts}
use Rattle.journal_check.proofs.check_instant.Goals as goal

pub step_from-step-requires-clause-by_index : goal.step_from-step-requires-clause-by_index
step_from-step-requires-clause-by_index c =
    let s = c.args.prepared.now.bytes.now in
    told_known (sizes s).tokens (sizes_few s).0 c.tokens_in-told.ensures c.requires.formed.inputs

pub returns-then-step-clause-held : goal.returns-then-step-clause-held
returns-then-step-clause-held c =
    let s = c.args.prepared.now.bytes.now in
    held_unlawful s c.args.prepared.now.playable (state_in c.args.standing) (words c.args.here.now) c.tokens_in-told.result (told_set (sizes s).tokens (sizes_few s).0 c.tokens_in-told.ensures c.requires.formed.inputs)
    c.step_from-step.result c.step_from-step.ensures.stepped c.if-step.true

pub differs_from-requires-clause-formed : goal.differs_from-requires-clause-formed
differs_from-requires-clause-formed c =
    let s = c.args.prepared.now.bytes.now in
    formed_wide (sizes s).tokens (sizes_few s).0 c.requires.formed

pub differs_from-requires-clause-status_bound : goal.differs_from-requires-clause-status_bound
differs_from-requires-clause-status_bound c =
    status_few c.args.prepared.now.bytes.now c.args.prepared.now.playable (state_in c.args.standing) (set_of c.tokens_in-told.result) c.step_from-step.ensures.stepped

pub returns-then-differs_from-clause-held : goal.returns-then-differs_from-clause-held
returns-then-differs_from-clause-held c =
    let s = c.args.prepared.now.bytes.now in
    held_differs s c.args.prepared.now.playable (state_in c.args.standing) (words c.args.here.now) c.tokens_in-told.result (told_set (sizes s).tokens (sizes_few s).0 c.tokens_in-told.ensures c.requires.formed.inputs)
    c.step_from-step.result c.step_from-step.ensures.stepped c.if-step.false c.differs_from.ensures c.if-differs_from.true

pub returns-clause-held : goal.returns-clause-held
returns-clause-held c =
    let s = c.args.prepared.now.bytes.now in
    accepts s c.args.prepared.now.playable (state_in c.args.standing) (words c.args.here.now) c.tokens_in-told.result (told_set (sizes s).tokens (sizes_few s).0 c.tokens_in-told.ensures c.requires.formed.inputs)
    c.step_from-step.result c.step_from-step.ensures.stepped c.if-step.false c.differs_from.ensures c.if-differs_from.false
