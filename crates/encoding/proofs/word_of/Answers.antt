-- `encoding::word_of`: the parts are shifted past each other.
use Rattle.std.proofs.Common.{refl, ◌∙◌, ◌+◌, ◌*◌, ◌^◌, arith}
use native.Mathlib.Nat.{le-mul_of_pos_right}
use lib.Pow.{pow_pos}
use Rattle.encoding.proofs.Shifts.{or_above}
use Rattle.encoding.proofs.word_of.Goals as goal

pub overflow_cast-result-2 : goal.overflow_cast-result-2
overflow_cast-result-2 c = omega (arith, le-mul_of_pos_right c.args.high (pow_pos c.args.at))

pub returns : goal.returns
returns c =
    let low = c.args.low in
    let at = c.args.at in
    let high = c.args.high in
    or_above (low + high * 2 ^ at) c.args.kind 28 (or_above low high at refl (omega arith) (omega arith)) (omega arith) (omega arith)
    ∙ omega arith
