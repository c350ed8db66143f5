-- Numbers 12 and 13: a list or journal is turned down by its form before its first instant.
--     by_form        how a call whose exits are of any type leaves, or goes on
use Rattle.journal_form.specs.Form.{Form, Good, Bytes, Word}
use Rattle.journal_step.specs.Reply.{Reply}
use Rattle.refusals.specs.Refused.{Bytes as NoWords, Word as Against}

abbrev pub by_form : {E : Type 0} → Form → (Reply → E) → E → E
by_form Good down on = on
by_form Bytes down on = down NoWords
by_form (Word k) down on = down (Against k)
