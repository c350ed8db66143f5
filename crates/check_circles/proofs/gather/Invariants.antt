-- `check_circles::gather`: the sets of the agents below i are gathered.
use Rattle.format.specs.Decode.{decode}
use Rattle.check_calls.specs.Calls.{Gathered}
use Rattle.check_circles.proofs.gather.Given as goal

abbrev pub invariant-loop-i : goal.invariant-loop-i
invariant-loop-i l = Gathered (decode l.s) l.i l.sets
