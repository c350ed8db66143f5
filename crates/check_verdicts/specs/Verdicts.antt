-- Verdicts of the score check.
--     verdict_number, verdict_value   the table's number for a verdict, and the word or procedure returned with it; 0 where there
--                                     is none
--     or_else                          the first verdict, or the second where the first finds nothing wrong
--     by_verdict                       how a call whose exits are of any type leaves, or goes on
use Rattle.std.specs.Prelude.{Err, ℕ}
use Rattle.check_verdicts.specs.declared.Fault.{Fault}
use Rattle.check_verdicts.specs.Verdict.{Verdict, Accepted, Length, Head, Count, Form, Token, Reference, Circle}

abbrev pub verdict_number : Verdict → ℕ
verdict_number Accepted = 0
verdict_number Length = 1
verdict_number Head = 2
verdict_number Count = 3
verdict_number (Form k) = 4
verdict_number (Token k) = 5
verdict_number (Reference k) = 6
verdict_number (Circle p) = 7

abbrev pub verdict_value : Verdict → ℕ
verdict_value Accepted = 0
verdict_value Length = 0
verdict_value Head = 0
verdict_value Count = 0
verdict_value (Form k) = k
verdict_value (Token k) = k
verdict_value (Reference k) = k
verdict_value (Circle p) = p

abbrev pub or_else : Verdict → Verdict → Verdict
or_else Accepted v = v
or_else (Err f) v = Err f

-- a call that a verdict turns down, or goes on
abbrev pub by_verdict : {E : Type 0} → Verdict → (Fault → E) → E → E
by_verdict Accepted down on = on
by_verdict (Err f) down on = down f
