-- A call that a verdict turns down, or goes on. A call's exit may be of any type.
--     turned         it leaves by the verdict's fault
--     passed         it goes on, where the verdict's number is 0
--     accepted       the number of a verdict is 0 where a `?` goes on
--     by_fault       what holds by each fault, and where there is none
--     by_question    what the exit of a `?` returns
use mathlib.Core.Path.{◌≡◌, refl, ap, sym, ◌∙◌}
use Rattle.std.proofs.Common.{Result, Ok, Err}
use Rattle.std.proofs.lemmas.Result.{err_from_is_err_and}
use Rattle.std.specs.Result.{IsErrAnd}
use Rattle.check_verdicts.specs.declared.Fault.{Fault}
use Rattle.check_verdicts.specs.Verdict.{Verdict, Accepted}
use Rattle.check_verdicts.specs.Verdicts.{verdict_number, by_verdict}
use Rattle.check_verdicts.proofs.Verdicts.{accepted_only}
use Rattle.refusals.specs.declared.Refusal.{Refusal}

pub turned : {E : Type 0} (down : Fault → E) (on : E) {f : Fault} (v : Verdict) → Err f ≡ v → down f ≡ by_verdict v down on
turned down on v is = ap (λ w. by_verdict w down on) is

pub passed : {E : Type 0} (down : Fault → E) {on z : E} (v : Verdict) → verdict_number v ≡ 0 → z ≡ on → z ≡ by_verdict v down on
passed down {on} v accepted is = is ∙ ap (λ w. by_verdict w down on) (sym (accepted_only v accepted))

pub accepted : {u : Unit {0}} {r v : Verdict} → r ≡ v → r ≡ Ok u → verdict_number v ≡ 0
accepted is was = ap verdict_number (sym is ∙ was)

-- what is proved by each fault, and where there is none
pub by_fault : {E : Type 0} (O : E → Type 0) {down : Fault → E} {on : E} (v : Verdict) → ((f : Fault) → v ≡ Err f → O (down f)) → (verdict_number v ≡ 0 → O on) → O (by_verdict v down on)
by_fault O Accepted at_fault at_none = at_none refl
by_fault O (Err f) at_fault at_none = at_fault f refl

-- what the exit of a `?` returns
pub by_question : {A : Type 0} {e : Refusal} (r : Result A Refusal) → IsErrAnd r (λ x. x ≡ e) → r ≡ Err e
by_question r h = let p = err_from_is_err_and r h in p.1 ∙ ap Err p.2
