use Rattle.std.proofs.Common.{◌*◌}
use Rattle.format.specs.Decode.{decode}
use Rattle.flags.specs.Flags.{set_of}
use Rattle.instant_end.specs.Ended.{Read}
use Rattle.instant_end.proofs.Reduced.{Marked}
use Rattle.instant_end.proofs.end_of.Given as goal

abbrev pub invariant-loop-k : goal.invariant-loop-k
invariant-loop-k l = record { read : Read (decode l.prepared.bytes.now) (set_of l.live) (set_of l.held) (32 * l.k) l.awake; marked : Marked (decode l.prepared.bytes.now) (set_of l.live) (set_of l.held) l.k l.scratch }
