-- `lent::read_agents`: the flags below 32 k are set.
use Rattle.std.proofs.Common.{◌*◌}
use Rattle.bits.proofs.Filled.{Upto}
use Rattle.lent.proofs.Agents.{awake_in}
use Rattle.lent.proofs.read_agents.Given as goal

abbrev pub invariant-loop-k : goal.invariant-loop-k
invariant-loop-k l = Upto (awake_in l.state) (32 * l.k) 1024 l.flags
