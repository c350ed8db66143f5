-- What each call found, as an answer by the table's numbers.
--     of_verdict     a verdict on a score
--     of_refusal     a refusal
--     of_reply       the reply of an instant call
--     of_run_reply   the reply of a run or a journal check
--     of_translation  the reply of a translation
--     of_settings    the reply of a count of settings
use Rattle.std.specs.Prelude.{Ok, Err}
use Rattle.check_verdicts.specs.Verdict.{Verdict}
use Rattle.check_verdicts.specs.Verdicts.{verdict_number, verdict_value}
use Rattle.refusals.specs.declared.Refusal.{Refusal}
use Rattle.instant_call.specs.Reply.{Reply as InstantReply}
use Rattle.journal_step.specs.Reply.{Reply as RunReply}
use Rattle.draft_plain.specs.Reply.{Reply as TranslationReply}
use Rattle.settings_call.specs.Reply.{Reply as SettingsReply}
use Rattle.score_answer.specs.Answer.{Reply, reply, accepted, refused, settled, counted}

abbrev pub of_verdict : Verdict → Reply
of_verdict v = reply (verdict_number v) (verdict_value v)

abbrev pub of_refusal : Refusal → Reply
of_refusal (Refusal.Score f) = of_verdict (Err f)
of_refusal Refusal.Lengths = refused 8 0
of_refusal Refusal.State = refused 9 0
of_refusal Refusal.Input = refused 10 0
of_refusal Refusal.Next = refused 11 0
of_refusal Refusal.Bytes = refused 12 0
of_refusal (Refusal.Word k) = refused 13 k
of_refusal (Refusal.Differs k) = refused 14 k
of_refusal (Refusal.Full n) = refused 15 n
of_refusal Refusal.Large = refused 16 0
of_refusal Refusal.Switches = refused 17 0
of_refusal (Refusal.Last n) = refused 18 n

abbrev pub of_reply : InstantReply → Reply
of_reply (Ok s) = settled s.status s.count
of_reply (Err r) = of_refusal r

abbrev pub of_run_reply : RunReply → Reply
of_run_reply (Ok n) = accepted n
of_run_reply (Err r) = of_refusal r

abbrev pub of_translation : TranslationReply → Reply
of_translation (Ok n) = accepted n
of_translation (Err r) = of_refusal r

abbrev pub of_settings : SettingsReply → Reply
of_settings (Ok c) = counted c.quiet c.clashed c.aborted
of_settings (Err r) = of_refusal r
