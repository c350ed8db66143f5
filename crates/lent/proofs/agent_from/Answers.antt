-- `lent::agent_from`: one word more.
use Rattle.std.proofs.Common.{◌≡◌, ◌∙◌, ◌*◌, sym, ap, leb, arith}
use mathlib.Core.Bool.{◌&&◌}
use Rattle.laws.specs.Sets.{any, below}
use Rattle.lent.proofs.Agents.{awake_in, agents_from, found_more}
use Rattle.lent.proofs.agent_from.Goals as goal

pub loop-k-preserved : goal.loop-k-preserved
loop-k-preserved c = let a = c.args in
    let b = c.loop-k in
    let word = c.word_at-word in
    let here = c.bit_from-found in
    found_more a.state.now b.k word.result word.ensures a.from b.found here.result (omega arith) b.invariant here.ensures

pub returns : goal.returns
returns c = let a = c.args in
    let e : 32 * c.loop-k.k ≡ 1024 = omega arith in
    c.loop-k.invariant ∙ ap (λ n. any (λ i. leb a.from i && awake_in a.state.now i) (below n)) e ∙ sym (agents_from a.state.now a.from)
