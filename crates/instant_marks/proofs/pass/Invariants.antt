use Rattle.format.specs.Decode.{decode}
use Rattle.instant_marks.specs.Passed.{Passed}
use Rattle.instant_marks.proofs.pass.Given as goal

abbrev pub invariant-loop-i : goal.invariant-loop-i
invariant-loop-i l = Passed (decode l.prepared.bytes.now) l.i l.fn.live l.fn.held l.live l.held l.grew
