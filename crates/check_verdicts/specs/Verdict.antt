-- What the score check finds: `Ok` of nothing, or a fault.
--     Accepted                        nothing is wrong
--     Length, Head, Count, Form k ..  a fault
use Rattle.std.specs.Prelude.{ℕ, Result, Ok, Err}
use Rattle.check_verdicts.specs.declared.Fault.{Fault}

abbrev pub Verdict : Type 0
Verdict = Result (Unit {0}) Fault

pattern abbrev pub Accepted : Verdict
Accepted = Ok tt

pattern abbrev pub Length : Verdict
Length = Err Fault.Length

pattern abbrev pub Head : Verdict
Head = Err Fault.Head

pattern abbrev pub Count : Verdict
Count = Err Fault.Count

pattern abbrev pub Form : ℕ → Verdict
Form k = Err (Fault.Form k)

pattern abbrev pub Token : ℕ → Verdict
Token k = Err (Fault.Token k)

pattern abbrev pub Reference : ℕ → Verdict
Reference k = Err (Fault.Reference k)

pattern abbrev pub Circle : ℕ → Verdict
Circle p = Err (Fault.Circle p)
