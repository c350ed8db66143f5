-- The stage of the form.
--     by_form_lem    a form that is known settles how a call leaves or goes on
--     by_misform     and where something is against it, the call leaves by that
use mathlib.Core.Path.{◌≡◌, refl, sym, ap, ◌∙◌}
use Rattle.std.proofs.Common.{Err}
use Rattle.journal_form.specs.declared.Misform.{Misform}
use Rattle.journal_form.specs.declared.Misform.TheVariants as misform
use Rattle.journal_form.specs.Form.{Form}
use Rattle.journal_form.specs.Refusals.{refusal_of}
use Rattle.journal_step.specs.Reply.{Reply}
use Rattle.journal_step.specs.ByForm.{by_form}

pub by_form_lem : {E : Type 0} (down : Reply → E) (on : E) {z : E} {f g : Form} → f ≡ g → z ≡ by_form g down on → z ≡ by_form f down on
by_form_lem down on e is = is ∙ sym (ap (λ f. by_form f down on) e)

pub by_misform : {E : Type 0} (down : Reply → E) (on : E) (m : Misform) → down (Err (refusal_of m)) ≡ by_form (Err m) down on
by_misform down on misform.Bytes = refl
by_misform down on (misform.Word k) = refl
