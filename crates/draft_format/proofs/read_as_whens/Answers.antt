-- `read_as_whens`: all are read.
use Rattle.std.proofs.Common.{ap, ◌∙◌, get_or, arith}
use Rattle.draft_format.specs.DraftFile.{when_byte}
use Rattle.draft_format.proofs.AsWhens.{as_whens_filled}
use Rattle.draft_format.proofs.read_as_whens.Goals as goal

pub returns : goal.returns
returns c =
    let s = c.args.draft.now in
    let l = c.loop-n in
    as_whens_filled s l.whens (omega arith) (λ j lt. l.invariant.1 j (omega arith) ∙ ap (λ a. when_byte a j (get_or s j 0)) c.requires.agents_value)
