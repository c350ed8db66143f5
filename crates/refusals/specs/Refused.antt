-- What a call returns that turns down what it is handed, or stops; of any type that it returns else.
--     Turned                    the score is turned down by a fault
--     Lengths, State, Input ..  a refusal
use Rattle.std.specs.Prelude.{ℕ, Result, Err}
use Rattle.check_verdicts.specs.declared.Fault.{Fault}
use Rattle.refusals.specs.declared.Refusal.{Refusal}

pattern abbrev pub Turned : {A : Type 0} → Fault → Result A Refusal
Turned f = Err (Refusal.Score f)

pattern abbrev pub Lengths : {A : Type 0} → Result A Refusal
Lengths = Err Refusal.Lengths

pattern abbrev pub State : {A : Type 0} → Result A Refusal
State = Err Refusal.State

pattern abbrev pub Input : {A : Type 0} → Result A Refusal
Input = Err Refusal.Input

pattern abbrev pub Next : {A : Type 0} → Result A Refusal
Next = Err Refusal.Next

pattern abbrev pub Bytes : {A : Type 0} → Result A Refusal
Bytes = Err Refusal.Bytes

pattern abbrev pub Word : {A : Type 0} → ℕ → Result A Refusal
Word k = Err (Refusal.Word k)

pattern abbrev pub Differs : {A : Type 0} → ℕ → Result A Refusal
Differs n = Err (Refusal.Differs n)

pattern abbrev pub Full : {A : Type 0} → ℕ → Result A Refusal
Full n = Err (Refusal.Full n)

pattern abbrev pub Large : {A : Type 0} → Result A Refusal
Large = Err Refusal.Large

pattern abbrev pub Switches : {A : Type 0} → Result A Refusal
Switches = Err Refusal.Switches

pattern abbrev pub Last : {A : Type 0} → ℕ → Result A Refusal
Last n = Err (Refusal.Last n)
