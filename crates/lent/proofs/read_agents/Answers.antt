-- `lent::read_agents`: one word more, whose flags are spread where it has any.
use Rattle.std.proofs.Common.{◌≡◌, ◌*◌, ◌+◌, List, Bool, arith, subst}
use Rattle.bits.specs.Spread.{Spread}
use Rattle.bits.proofs.Filled.{Upto, upto_none, spread_zero}
use Rattle.lent.proofs.Agents.{awake_in, agents_flags, agents_more}
use Rattle.lent.proofs.read_agents.Goals as goal
use Rattle.lent.proofs.read_agents.Goals.{then-w-ne0, else-w-ne0}

pub loop-k-init : goal.loop-k-init
loop-k-init c = upto_none (awake_in c.args.state.now) 1024

pub loop-k-preserved : goal.loop-k-preserved
loop-k-preserved c =
    let s = c.args.state.now in
    let b = c.loop-k in
    let w = c.word_at-w.result in
    let step : (flags : List Bool) → Spread (32 * b.k) 32 w b.flags flags → Upto (awake_in s) (32 * (b.k + 1)) 1024 flags =
    λ flags p. agents_more s b.k w c.word_at-w.ensures b.flags flags b.invariant p in
    elim c.if-w-ne0.branch [
      | then-w-ne0 t ↦ step c.if-w-ne0.flags (rw t.flags-is t.spread.ensures)
      | else-w-ne0 t ↦ step c.if-w-ne0.flags (rw t.flags-is (spread_zero (awake_in s) (32 * b.k) 1024 32 w b.flags b.invariant t.if-w-ne0.false))
    ]

pub returns : goal.returns
returns c =
    let s = c.args.state.now in
    let e : 32 * c.loop-k.k ≡ 1024 = omega arith in
    agents_flags s c.loop-k.flags (subst (λ m. Upto (awake_in s) m 1024 c.loop-k.flags) e c.loop-k.invariant)
