-- Replies as answers.
--     reply_number, reply_value     the reply with a number and a value has that number and that value
--     reply_fits                    and has room in an answer, if they are of a verdict's size
use mathlib.Core.Path.{◌≡◌, refl, subst⁻¹}
use mathlib.Core.Bool.{cond}
use Prim.Native.Nat.{ℕ, zero, suc, ◌^◌, ◌<◌, ◌≤◌}
use native.Mathlib.Omega.{arith}
use Rattle.score_answer.specs.Answer.{reply, number_of, value_of, Fits}
use Rattle.score_answer.proofs.Widths.{not_wide}

pub reply_number : (n v : ℕ) → number_of (reply n v) ≡ n
reply_number zero v = refl
reply_number (suc n) v = refl

pub reply_value : (n v : ℕ) → value_of (reply n v) ≡ v
reply_value zero v = refl
reply_value (suc n) v = refl

pub reply_fits : (n v : ℕ) → n ≤ 7 → v < 2 ^ 24 → Fits (reply n v)
reply_fits zero v hn hv = omega arith
reply_fits (suc n) v hn hv = (omega arith, omega arith, subst⁻¹ (λ b. v < cond b (2 ^ 61) (2 ^ 24)) (not_wide (suc n) (omega arith)) hv)
