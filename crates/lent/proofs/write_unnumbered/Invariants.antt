-- `lent::write_unnumbered`: the first word and the words of agents below k are written.
use Rattle.std.proofs.Common.{◌≡◌}
use Rattle.lent.proofs.Gathered.{state_written}
use Rattle.lent.proofs.write_unnumbered.Given as goal

abbrev pub invariant-loop-k : goal.invariant-loop-k
invariant-loop-k l = l.state ≡ state_written l.first l.awake l.k l.initial.state
