-- Passes have added to the marks.
use Rattle.std.proofs.Common.{◌+◌, ◌-◌, length}
use Rattle.format.specs.Decode.{decode}
use Rattle.flags.specs.Flags.{set_of}
use Rattle.instant_engine.proofs.Settling.{Settling}
use Rattle.instant_engine.proofs.settle.Given as goal

abbrev pub invariant-loop-held : goal.invariant-loop-held
invariant-loop-held l = Settling (decode l.prepared.bytes.now) (set_of l.initial.live) (set_of l.initial.held) (set_of l.live) (set_of l.held)

abbrev pub decreases-loop-held : goal.decreases-loop-held
decreases-loop-held l = 1280 - (length (set_of l.live) + length (set_of l.held))
