-- `lent::write_unnumbered`: one word of agents more.
use Rattle.std.proofs.Common.{◌≡◌, ◌∙◌, ap, arith}
use Rattle.lent.proofs.Gathered.{state_written, state_first, state_more, state_all}
use Rattle.lent.proofs.write_unnumbered.Goals as goal

pub loop-k-init : goal.loop-k-init
loop-k-init c = state_first c.args.first c.args.awake c.args.state.now c.put_word.new.bytes c.put_word.ensures

pub loop-k-preserved : goal.loop-k-preserved
loop-k-preserved c = let a = c.args in
    let b = c.loop-k in
    let t = c.put_word-in-loop-k in
    state_more a.first a.awake b.k c.gather-w.result _ b.state t.new.bytes b.invariant c.gather-w.ensures t.ensures

pub returns : goal.returns
returns c = let a = c.args in
    let b = c.loop-k in
    let t = c.put_word in
    let e : b.k ≡ 32 = omega arith in
    state_all a.first a.awake a.state.now t.new.bytes b.state t.ensures (b.invariant ∙ ap (λ k. state_written a.first a.awake k t.new.bytes) e)
