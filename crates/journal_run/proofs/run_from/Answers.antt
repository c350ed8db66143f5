-- The run from where the score stands in its state.
use Rattle.std.proofs.Common.{sym, ap, ap₂, ◌∙◌}
use mathlib.Core.Path.{subst⁻¹}
use Rattle.format.specs.Decode.{sizes}
use Rattle.lent.specs.States.{LawfulState}
use Rattle.lent.proofs.Round.{faultless_lawful}
use Rattle.instant_state.specs.Standing.{state_in}
use Rattle.instant_state.proofs.Standings.{standing_state}
use Rattle.journal_run.specs.RunCall.{ending}
use Rattle.journal_run.proofs.run_from.Goals as goal

pub run_list-ended-requires-clause-lawful_state : goal.run_list-ended-requires-clause-lawful_state
run_list-ended-requires-clause-lawful_state c =
    let s = c.args.state.now in
    subst⁻¹ (LawfulState (sizes c.args.prepared.now.bytes.now).agents) (ap state_in c.standing_in-standing.ensures ∙ standing_state s) (faultless_lawful (sizes c.args.prepared.now.bytes.now).agents s c.requires.state_value)

pub keep-requires-clause-lawful_state : goal.keep-requires-clause-lawful_state
keep-requires-clause-lawful_state c =
    let s = c.args.state.now in
    let ran = c.run_list-ended.ensures.by_index s (sym (ap state_in c.standing_in-standing.ensures ∙ standing_state s)) (sym c.number_in-number.ensures) in
    ran.lawful

pub returns-clause-left_by : goal.returns-clause-left_by
returns-clause-left_by c =
    let s = c.args.state.now in
    let ran = c.run_list-ended.ensures.by_index s (sym (ap state_in c.standing_in-standing.ensures ∙ standing_state s)) (sym c.number_in-number.ensures) in
    record {
      state_is = c.keep.ensures ∙ sym ran.state_is;
      journal_is = ran.journal_is;
      reply_is = c.reply_of.ensures ∙ ap₂ ending (sym ran.stop_is) (sym ran.instants_are);
    }
