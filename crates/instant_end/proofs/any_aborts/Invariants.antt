use Rattle.format.specs.Decode.{decode}
use Rattle.flags.specs.Flags.{set_of}
use Rattle.instant_end.proofs.Free.{Free}
use Rattle.instant_end.proofs.any_aborts.Given as goal

abbrev pub invariant-loop-i : goal.invariant-loop-i
invariant-loop-i l = Free (decode l.prepared.bytes.now) (set_of l.live) l.i
