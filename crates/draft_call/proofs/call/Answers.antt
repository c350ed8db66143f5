-- `call`: each test in the order of the table, then the translation.
use Rattle.std.proofs.Common.{sym, ap, ◌∙◌}
use Rattle.check_verdicts.proofs.Verdicts.{accepted_only}
use Rattle.draft_format.specs.DraftFile.{draft_verdict}
use Rattle.refusals.proofs.ByVerdict.{accepted, by_question}
use Rattle.draft_call.specs.TranslateCall.{kept}
use Rattle.draft_call.proofs.Exits.{turned, lengths, translates}
use Rattle.draft_call.proofs.call.Goals as goal

pub returns-in_err-check : goal.returns-in_err-check
returns-in_err-check c =
    let a = c.args in
    record { exits = ap (kept a.plain.now) (by_question c.from_residual.result c.from_residual.ensures.1) ∙ turned a.draft.now a.plain.now (sym c.in_err-check.was ∙ c.check.ensures) }

pub returns-then-plain-ne-MOST_BYTES : goal.returns-then-plain-ne-MOST_BYTES
returns-then-plain-ne-MOST_BYTES c =
    let a = c.args in
    record { exits = lengths a.draft.now a.plain.now (accepted c.check.ensures c.in_ok-check.was) c.if-plain-ne-MOST_BYTES.true }

pub translate-requires-clause-draft_value : goal.translate-requires-clause-draft_value
translate-requires-clause-draft_value c = accepted_only (draft_verdict c.args.draft.now) (accepted c.check.ensures c.in_ok-check.was)

pub returns : goal.returns
returns c =
    let a = c.args in
    translates a.draft.now a.plain.now (accepted c.check.ensures c.in_ok-check.was) c.if-plain-ne-MOST_BYTES.false c.translate.ensures
