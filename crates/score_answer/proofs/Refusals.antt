-- Refusals as answers.
--     refusal_numbered     a refusal's number is not 0
--     refusal_settled      two refusals with the same number and the same value are the same
use mathlib.Core.Path.{◌≡◌, refl, sym, ap₂, ◌∙◌}
use mathlib.Core.Bool.{cond}
use Prim.Native.Nat.{ℕ}
use native.Mathlib.Omega.{arith}
use lib.Dec.{eqb}
use Rattle.check_verdicts.specs.declared.Fault.{Fault}
use Rattle.refusals.specs.declared.Refusal.{Refusal}
use Rattle.score_answer.specs.Answer.{number_of, value_of}
use Rattle.score_answer.specs.Replies.{of_refusal}

pub refusal_numbered : (r : Refusal) → number_of (of_refusal r) ≡ 0 → ⊥
refusal_numbered (Refusal.Score Fault.Length) e = omega arith
refusal_numbered (Refusal.Score Fault.Head) e = omega arith
refusal_numbered (Refusal.Score Fault.Count) e = omega arith
refusal_numbered (Refusal.Score (Fault.Form k)) e = omega arith
refusal_numbered (Refusal.Score (Fault.Token k)) e = omega arith
refusal_numbered (Refusal.Score (Fault.Reference k)) e = omega arith
refusal_numbered (Refusal.Score (Fault.Circle p)) e = omega arith
refusal_numbered Refusal.Lengths e = omega arith
refusal_numbered Refusal.State e = omega arith
refusal_numbered Refusal.Input e = omega arith
refusal_numbered Refusal.Next e = omega arith
refusal_numbered Refusal.Bytes e = omega arith
refusal_numbered (Refusal.Word k) e = omega arith
refusal_numbered (Refusal.Differs k) e = omega arith
refusal_numbered (Refusal.Full k) e = omega arith
refusal_numbered Refusal.Large e = omega arith
refusal_numbered Refusal.Switches e = omega arith
refusal_numbered (Refusal.Last k) e = omega arith

-- the fault, and the refusal, with a number and a value
abbrev fault_by : ℕ → ℕ → Fault
fault_by n v =
    cond (eqb n 1) Fault.Length (cond (eqb n 2) Fault.Head (cond (eqb n 3) Fault.Count (cond (eqb n 4) (Fault.Form v) (cond (eqb n 5) (Fault.Token v)
    (cond (eqb n 6) (Fault.Reference v) (Fault.Circle v))))))

abbrev refusal_by : ℕ → ℕ → Refusal
refusal_by n v =
    cond (eqb n 8) Refusal.Lengths (cond (eqb n 9) Refusal.State (cond (eqb n 10) Refusal.Input (cond (eqb n 11) Refusal.Next (cond (eqb n 12) Refusal.Bytes
    (cond (eqb n 13) (Refusal.Word v) (cond (eqb n 14) (Refusal.Differs v) (cond (eqb n 15) (Refusal.Full v) (cond (eqb n 16) Refusal.Large
    (cond (eqb n 17) Refusal.Switches (cond (eqb n 18) (Refusal.Last v) (Refusal.Score (fault_by n v))))))))))))

by_itself : (r : Refusal) → r ≡ refusal_by (number_of (of_refusal r)) (value_of (of_refusal r))
by_itself (Refusal.Score Fault.Length) = refl
by_itself (Refusal.Score Fault.Head) = refl
by_itself (Refusal.Score Fault.Count) = refl
by_itself (Refusal.Score (Fault.Form k)) = refl
by_itself (Refusal.Score (Fault.Token k)) = refl
by_itself (Refusal.Score (Fault.Reference k)) = refl
by_itself (Refusal.Score (Fault.Circle p)) = refl
by_itself Refusal.Lengths = refl
by_itself Refusal.State = refl
by_itself Refusal.Input = refl
by_itself Refusal.Next = refl
by_itself Refusal.Bytes = refl
by_itself (Refusal.Word k) = refl
by_itself (Refusal.Differs k) = refl
by_itself (Refusal.Full k) = refl
by_itself Refusal.Large = refl
by_itself Refusal.Switches = refl
by_itself (Refusal.Last k) = refl

pub refusal_settled : (r t : Refusal) → number_of (of_refusal r) ≡ number_of (of_refusal t) → value_of (of_refusal r) ≡ value_of (of_refusal t) → r ≡ t
refusal_settled r t n v = by_itself r ∙ ap₂ refusal_by n v ∙ sym (by_itself t)
