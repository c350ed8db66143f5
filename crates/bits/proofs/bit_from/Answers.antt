-- `bits::bit_from`: a word is below 2 ^ 32.
use Rattle.std.proofs.Common.{◌≡◌, ◌∙◌, sym, ap, not, eqb, ◌-◌, ◌^◌, ◌<◌, ◌≤◌, false, nat_lt, arith, rules}
use native.Mathlib.Nat.{div-eq_of_lt, lt_of_lt_of_le}
use lib.Pow.{pow_mono}
use Rattle.bits.proofs.bit_from.Goals as goal

pub returns-else-lowest-lt32 : goal.returns-else-lowest-lt32
returns-else-lowest-lt32 c = let a = c.args in
    let small : a.w < 2 ^ 32 = omega arith in
    let far : 32 ≤ a.from - a.base = omega arith in
    let past : nat_lt c.saturating_sub-lowest.result 32 ≡ false = search rules in
    past ∙ sym (ap (λ x. not (eqb x 0)) (div-eq_of_lt (lt_of_lt_of_le small (pow_mono far))))
