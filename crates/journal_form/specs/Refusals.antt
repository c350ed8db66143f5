-- A list or journal against its form, as a refusal.
--     refusal_of      numbers 12 and 13
use Rattle.journal_form.specs.declared.Misform.{Misform}
use Rattle.journal_form.specs.declared.Misform.TheVariants.{Bytes, Word}
use Rattle.refusals.specs.declared.Refusal.{Refusal}

abbrev pub refusal_of : Misform → Refusal
refusal_of Bytes = Refusal.Bytes
refusal_of (Word k) = Refusal.Word k
