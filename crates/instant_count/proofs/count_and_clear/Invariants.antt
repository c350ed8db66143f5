use Rattle.instant_count.proofs.Tallying.{Tallying}
use Rattle.instant_count.proofs.count_and_clear.Given as goal

abbrev pub invariant-loop-byte : goal.invariant-loop-byte
invariant-loop-byte l = Tallying l.fn.scratch l.byte-items l.byte-index l.count
