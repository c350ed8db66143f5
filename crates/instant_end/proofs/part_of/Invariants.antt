use Rattle.format.specs.Decode.{decode}
use Rattle.flags.specs.Flags.{set_of}
use Rattle.instant_end.proofs.Parts.{PartRead}
use Rattle.instant_end.proofs.part_of.Given as goal

abbrev pub invariant-loop-j : goal.invariant-loop-j
invariant-loop-j l = PartRead (decode l.prepared.bytes.now) (set_of l.live) (set_of l.held) l.k l.j l.awake l.reduced
