-- `words::bits`: a shift right is a division, and a mask of ones a remainder, by a power of two.
use Rattle.std.proofs.Common.{ap, ◌∙◌, ◌-◌, ◌/◌, ◌^◌, arith}
use Rattle.std.proofs.lemmas.Nat.{one_shl, and_mask, pow_pos}
use lib.Bits.{bit_and}
use Rattle.words.specs.Word.{field}
use Rattle.words.proofs.bits.Goals as goal

pub overflow_sub-result : goal.overflow_sub-result
overflow_sub-result c = omega (arith, one_shl c.args.width 32 c.requires.width_bound, pow_pos c.args.width)

pub returns : goal.returns
unfolding field
returns c =
    let shifted = c.args.w / 2 ^ c.args.lowest in
    ap (λ ones. bit_and shifted (ones - 1)) (one_shl c.args.width 32 c.requires.width_bound) ∙ and_mask shifted c.args.width
