-- Laws of verdicts.
--     or_else_accepted  where the first verdict is to accept, the second stands
--     or_else_refused   a verdict that refuses stands
--     fault_numbered    the number of a fault is not 0
--     refused           a verdict whose number is not 0 does not accept
--     both_accepted     of two verdicts tried in turn, each accepts
--     accepted_only     the verdict with number 0 is to accept
--     number_few        the number of a verdict is at most 7
--     verdict_settled   two verdicts with the same number and the same value are the same
use mathlib.Core.Path.{◌≡◌, refl, sym, ap, ap₂, ◌∙◌}
use mathlib.Core.Bool.{cond}
use Prim.Native.Nat.{ℕ, ◌≤◌}
use native.Mathlib.Omega.{arith}
use lib.Dec.{eqb}
use Rattle.std.proofs.Common.{Err}
use Rattle.check_verdicts.specs.declared.Fault.{Fault}
use Rattle.check_verdicts.specs.Verdict.{Verdict, Accepted, Length, Head, Count, Form, Token, Reference, Circle}
use Rattle.check_verdicts.specs.Verdicts.{verdict_number, verdict_value, or_else}

fault_numbered : (f : Fault) → verdict_number (Err f) ≡ 0 → ⊥
fault_numbered Fault.Length e = omega arith
fault_numbered Fault.Head e = omega arith
fault_numbered Fault.Count e = omega arith
fault_numbered (Fault.Form k) e = omega arith
fault_numbered (Fault.Token k) e = omega arith
fault_numbered (Fault.Reference k) e = omega arith
fault_numbered (Fault.Circle p) e = omega arith

pub or_else_accepted : (v w : Verdict) → verdict_number v ≡ 0 → or_else v w ≡ w
or_else_accepted Accepted w e = refl
or_else_accepted (Err f) w e = absurd (fault_numbered f e)

pub or_else_refused : (v w : Verdict) → (verdict_number v ≡ 0 → ⊥) → or_else v w ≡ v
or_else_refused Accepted w n = absurd (n refl)
or_else_refused (Err f) w n = refl

pub refused : {A : Type 0} (v : Verdict) → (verdict_number v ≡ 0 → ⊥) → v ≡ Accepted → A
refused v n e = absurd (n (ap verdict_number e))

pub both_accepted : (v w : Verdict) → or_else v w ≡ Accepted → (v ≡ Accepted) × (w ≡ Accepted)
both_accepted Accepted w e = (refl, e)
both_accepted (Err f) w e = absurd (cc)

pub accepted_only : (v : Verdict) → verdict_number v ≡ 0 → v ≡ Accepted
accepted_only Accepted e = refl
accepted_only (Err f) e = absurd (fault_numbered f e)

pub number_few : (v : Verdict) → verdict_number v ≤ 7
number_few Accepted = omega arith
number_few Length = omega arith
number_few Head = omega arith
number_few Count = omega arith
number_few (Form k) = omega arith
number_few (Token k) = omega arith
number_few (Reference k) = omega arith
number_few (Circle p) = omega arith

-- the verdict with a number and a value
abbrev verdict_by : ℕ → ℕ → Verdict
verdict_by n k =
    cond (eqb n 0) Accepted (cond (eqb n 1) Length (cond (eqb n 2) Head (cond (eqb n 3) Count
    (cond (eqb n 4) (Form k) (cond (eqb n 5) (Token k) (cond (eqb n 6) (Reference k) (Circle k)))))))

by_itself : (v : Verdict) → v ≡ verdict_by (verdict_number v) (verdict_value v)
by_itself Accepted = refl
by_itself Length = refl
by_itself Head = refl
by_itself Count = refl
by_itself (Form k) = refl
by_itself (Token k) = refl
by_itself (Reference k) = refl
by_itself (Circle p) = refl

pub verdict_settled : (v w : Verdict) → verdict_number v ≡ verdict_number w → verdict_value v ≡ verdict_value w → v ≡ w
verdict_settled v w n e = by_itself v ∙ ap₂ verdict_by n e ∙ sym (by_itself w)
