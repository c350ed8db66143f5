-- `bits::gather`: one bit more, set by a shift and an or.
use Rattle.std.proofs.Common.{◌≡◌, ℕ, ◌+◌, ◌-◌, ◌*◌, ◌%◌, ◌^◌, Bool, false, get_or, take, drop, refl, sym, ap, ap₂, ◌∙◌, arith}
use Rattle.std.proofs.lemmas.Grind.{common_steps}
use lib.Bits.{bit_or}
use mir.Val.{bool_byte}
use Rattle.bits.specs.Bits.{bits_value}
use Rattle.bits.proofs.Bits.{bits_value_none, bits_value_or}
use Rattle.bits.proofs.gather.Goals as goal

pub returns-then-bound-base : goal.returns-then-bound-base
returns-then-bound-base c = let a = c.args in
    sym (bits_value_none (λ j. get_or a.flags.now (a.base + j) false) a.count (λ j h. c.requires.by_index (a.base + j) (omega arith)))

pub loop-j-init : goal.loop-j-init
unfolding bits_value
loop-j-init c = refl

pub loop-j-preserved : goal.loop-j-preserved
loop-j-preserved c = let a = c.args in
    let j = c.loop-j.j in
    let f : ℕ → Bool = λ i. get_or a.flags.now (a.base + i) false in
    let flag : get_or (take (a.base + a.count - a.base) (drop a.base a.flags.now)) j false ≡ f j = grind (arith, common_steps) in
    ap₂ (λ x y. bit_or x (y * 2 ^ j % 2 ^ 32)) c.loop-j.invariant (c.from.ensures ∙ ap bool_byte flag) ∙ bits_value_or f j (omega arith)
