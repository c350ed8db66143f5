-- `lent::agent_from`: found says whether an agent of the words below k is awake.
use Rattle.std.proofs.Common.{◌≡◌, ◌*◌, leb}
use mathlib.Core.Bool.{◌&&◌}
use Rattle.laws.specs.Sets.{any, below}
use Rattle.lent.proofs.Agents.{awake_in}
use Rattle.lent.proofs.agent_from.Given as goal

abbrev pub invariant-loop-k : goal.invariant-loop-k
invariant-loop-k l = l.found ≡ any (λ i. leb l.from i && awake_in l.state i) (below (32 * l.k))
