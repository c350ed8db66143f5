-- `call`: each test in the order of the table, then the instants.
use Rattle.std.proofs.Common.{sym, ap, ◌∙◌, true}
use Rattle.format.specs.Decode.{sizes}
use Rattle.check_score.proofs.Stages.{playable}
use Rattle.refusals.proofs.ByVerdict.{accepted, by_question}
use Rattle.journal_form.specs.Form.{form_of}
use Rattle.journal_check.specs.JournalCheckCall.{left}
use Rattle.journal_check.proofs.CheckExits.{turned, lengths, misformed, read}
use Rattle.journal_check.proofs.call.Goals as goal

pub returns-in_err-check : goal.returns-in_err-check
returns-in_err-check c =
    let a = c.args in
    record { exits = ap (left a.scratch.now) (by_question c.from_residual.result c.from_residual.ensures.1) ∙ turned a.score.now a.journal.now a.scratch.now (sym c.in_err-check.was ∙ c.check.ensures) }

pub returns-then-scratch-ne-SCRATCH_BYTES : goal.returns-then-scratch-ne-SCRATCH_BYTES
returns-then-scratch-ne-SCRATCH_BYTES c =
    let a = c.args in
    let ok = accepted c.check.ensures c.in_ok-check.was in
    record { exits = lengths a.score.now a.journal.now a.scratch.now ok c.if-scratch-ne-SCRATCH_BYTES.true }

pub prepare-prepared-requires : goal.prepare-prepared-requires
prepare-prepared-requires c =
    let s = c.args.score.now in
    playable s (accepted c.check.ensures c.in_ok-check.was)

pub returns-in_err-form_of : goal.returns-in_err-form_of
returns-in_err-form_of c =
    let a = c.args in
    let same = c.prepare-prepared.ensures in
    let form = c.form_of.ensures ∙ ap (λ n. form_of true n a.journal.now) (c.tokens.ensures ∙ ap (λ s. (sizes s).tokens) same) in
    record {
      exits =
          ap (left a.scratch.now) (by_question c.from_residual-in_err-form_of.result c.from_residual-in_err-form_of.ensures.1)
          ∙ misformed a.score.now a.journal.now a.scratch.now (accepted c.check.ensures c.in_ok-check.was) c.if-scratch-ne-SCRATCH_BYTES.false _ (sym form ∙ c.in_err-form_of.was);
    }

pub returns : goal.returns
returns c =
    let a = c.args in
    let ok = accepted c.check.ensures c.in_ok-check.was in
    let same = c.prepare-prepared.ensures in
    let form = c.form_of.ensures ∙ ap (λ n. form_of true n a.journal.now) (c.tokens.ensures ∙ ap (λ s. (sizes s).tokens) same) in
    let checks = c.check_list.ensures in
    record { exits = read a.score.now a.journal.now a.scratch.now ok c.if-scratch-ne-SCRATCH_BYTES.false (sym form ∙ c.in_ok-form_of.was) checks.scratch_after (rw same at checks.value) }
