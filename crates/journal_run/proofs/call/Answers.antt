-- `call`: each test in the order of the table, then the instants.
use Rattle.std.proofs.Common.{sym, ap, ◌∙◌, false, arith}
use Rattle.format.specs.Decode.{sizes}
use Rattle.check_score.proofs.Stages.{playable}
use Rattle.refusals.proofs.ByVerdict.{accepted, by_question}
use Rattle.lent.specs.States.{state_fault}
use Rattle.journal_form.specs.Form.{form_of}
use Rattle.journal_run.specs.RunCall.{lent, kept}
use Rattle.journal_run.proofs.RunExits.{turned, lengths, state, misformed, runs, right_lengths}
use Rattle.journal_run.proofs.call.Goals as goal

pub returns-in_err-check : goal.returns-in_err-check
returns-in_err-check c =
    let a = c.args in
    let l = lent a.state.now a.journal.now a.scratch.now in
    record { exits = ap (kept l) (by_question c.from_residual.result c.from_residual.ensures.1) ∙ turned a.score.now a.inputs.now l (sym c.in_err-check.was ∙ c.check.ensures) }

pub returns-then-wrong_length : goal.returns-then-wrong_length
returns-then-wrong_length c =
    let a = c.args in
    let l = lent a.state.now a.journal.now a.scratch.now in
    let ok = accepted c.check.ensures c.in_ok-check.was in
    record { exits = lengths a.score.now a.inputs.now l ok (sym c.wrong_length.ensures ∙ c.if-wrong_length.true) }

pub prepare-prepared-requires : goal.prepare-prepared-requires
prepare-prepared-requires c =
    let s = c.args.score.now in
    playable s (accepted c.check.ensures c.in_ok-check.was)

pub state_fault-requires : goal.state_fault-requires
state_fault-requires c =
    let a = c.args in
    let long = right_lengths (lent a.state.now a.journal.now a.scratch.now) (sym c.wrong_length.ensures ∙ c.if-wrong_length.false) in
    omega (arith, long.state_long)

pub returns-then-state_fault : goal.returns-then-state_fault
returns-then-state_fault c =
    let a = c.args in
    let l = lent a.state.now a.journal.now a.scratch.now in
    let ok = accepted c.check.ensures c.in_ok-check.was in
    let long = sym c.wrong_length.ensures ∙ c.if-wrong_length.false in
    let same = c.prepare-prepared.ensures in
    let fault = c.state_fault.ensures ∙ ap (λ n. state_fault n a.state.now) (c.agents.ensures ∙ ap (λ s. (sizes s).agents) same) in
    record { exits = state a.score.now a.inputs.now l ok long (sym fault ∙ c.if-state_fault.true) }

pub run_from-requires-clause-state_value : goal.run_from-requires-clause-state_value
run_from-requires-clause-state_value c =
    let a = c.args in
    sym (c.state_fault.ensures ∙ ap (λ n. state_fault n a.state.now) c.agents.ensures) ∙ c.if-state_fault.false

pub returns-in_err-form_of : goal.returns-in_err-form_of
returns-in_err-form_of c =
    let a = c.args in
    let l = lent a.state.now a.journal.now a.scratch.now in
    let long = sym c.wrong_length.ensures ∙ c.if-wrong_length.false in
    let same = c.prepare-prepared.ensures in
    let fault = c.state_fault.ensures ∙ ap (λ n. state_fault n a.state.now) (c.agents.ensures ∙ ap (λ s. (sizes s).agents) same) in
    let form = c.form_of.ensures ∙ ap (λ n. form_of false n a.inputs.now) (c.tokens.ensures ∙ ap (λ s. (sizes s).tokens) same) in
    record {
      exits =
          ap (kept l) (by_question c.from_residual-in_err-form_of.result c.from_residual-in_err-form_of.ensures.1)
          ∙ misformed a.score.now a.inputs.now l (accepted c.check.ensures c.in_ok-check.was) long (sym fault ∙ c.if-state_fault.false) _ (sym form ∙ c.in_err-form_of.was);
    }

pub returns : goal.returns
returns c =
    let a = c.args in
    let l = lent a.state.now a.journal.now a.scratch.now in
    let ok = accepted c.check.ensures c.in_ok-check.was in
    let long = sym c.wrong_length.ensures ∙ c.if-wrong_length.false in
    let same = c.prepare-prepared.ensures in
    let fault = c.state_fault.ensures ∙ ap (λ n. state_fault n a.state.now) (c.agents.ensures ∙ ap (λ s. (sizes s).agents) same) in
    let form = c.form_of.ensures ∙ ap (λ n. form_of false n a.inputs.now) (c.tokens.ensures ∙ ap (λ s. (sizes s).tokens) same) in
    let runs_so = c.run_from.ensures in
    record { exits = runs a.score.now a.inputs.now l ok long (sym fault ∙ c.if-state_fault.false) (sym form ∙ c.in_ok-form_of.was) _ _ _ _ runs_so.scratch_after (rw same at runs_so.left_by) }
