use Rattle.std.proofs.Common.{◌-◌}
use Rattle.format.specs.Decode.{decode}
use Rattle.instant_store.proofs.Repeats.{Repeating}
use Rattle.instant_store.proofs.close_rules.Given as goal

abbrev pub invariant-loop-added : goal.invariant-loop-added
invariant-loop-added l = Repeating (decode l.prepared.bytes.now) l.fn.store l.store l.passes

abbrev pub decreases-loop-added : goal.decreases-loop-added
decreases-loop-added l = 257 - l.passes
