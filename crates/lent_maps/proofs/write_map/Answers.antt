-- `lent_maps::write_map`: one byte more.
use Rattle.std.proofs.Common.{◌≡◌, ◌∙◌, ap, arith, ℕ, Bool, ◌<◌, ◌≤◌}
use lib.Pow.{pow_mono}
use Rattle.bits.specs.Bits.{bits_value}
use Rattle.bits.proofs.Bits.{bits_value_below}
use Rattle.lent_maps.proofs.MapWriting.{map_written, map_none, map_more, map_all}
use Rattle.lent_maps.proofs.write_map.Goals as goal

-- a number of at most 8 bits is a byte
few_bits : (n w : ℕ) (f : ℕ → Bool) → w ≡ bits_value f n → n ≤ 8 → w < 256
few_bits n w f e few = omega (arith, bits_value_below f n, e, pow_mono few)

pub overflow_cast-map : goal.overflow_cast-map
overflow_cast-map c = omega (arith, few_bits _ _ _ c.gather.ensures (omega arith))

pub loop-k-init : goal.loop-k-init
loop-k-init c = map_none c.args.set c.args.map.now

pub loop-k-preserved : goal.loop-k-preserved
loop-k-preserved c = let a = c.args in
    let b = c.loop-k in
    map_more a.set b.k c.gather.result a.map.now b.map (omega arith) b.invariant c.gather.ensures

pub returns : goal.returns
returns c = let a = c.args in
    let e : c.loop-k.k ≡ 32 = omega arith in
    c.loop-k.invariant ∙ ap (λ k. map_written a.set k a.map.now) e ∙ map_all a.set a.map.now c.requires.map_len
