-- `lent_maps::read_map`: one byte more, whose flags are spread where it has any.
use Rattle.std.proofs.Common.{◌≡◌, ◌*◌, refl, subst, get_or, arith}
use Rattle.words.specs.Map.{in_map}
use Rattle.bits.proofs.Filled.{Upto, upto_none, spread_zero}
use Rattle.lent_maps.proofs.Tokens.{tokens_flags, tokens_more}
use Rattle.lent_maps.proofs.read_map.Goals as goal
use Rattle.lent_maps.proofs.read_map.Goals.{then-byte-ne0, else-byte-ne0}

pub loop-k-init : goal.loop-k-init
loop-k-init c = upto_none (in_map c.args.map.now) 256

pub loop-k-preserved : goal.loop-k-preserved
loop-k-preserved c =
    let s = c.args.map.now in
    let b = c.loop-k in
    let after = c.if-byte-ne0.flags in
    let here = get_or s b.k 0 in
    elim c.if-byte-ne0.branch [
      | then-byte-ne0 t ↦ tokens_more s b.k t.from.result t.from.ensures b.flags after b.invariant (rw t.flags-is t.spread.ensures)
      | else-byte-ne0 t ↦ let same = spread_zero (in_map s) (8 * b.k) 256 8 here b.flags b.invariant t.if-byte-ne0.false in
          tokens_more s b.k here refl b.flags after b.invariant (rw t.flags-is same)
    ]

pub returns : goal.returns
returns c =
    let s = c.args.map.now in
    let e : 8 * c.loop-k.k ≡ 256 = omega arith in
    tokens_flags s c.loop-k.flags (subst (λ m. Upto (in_map s) m 256 c.loop-k.flags) e c.loop-k.invariant)
