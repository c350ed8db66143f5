-- `bits::gather`: w has the flags below j as its bits.
use Rattle.std.proofs.Common.{◌≡◌, false, ◌+◌, get_or}
use Rattle.bits.specs.Bits.{bits_value}
use Rattle.bits.proofs.gather.Given as goal

abbrev pub invariant-loop-j : goal.invariant-loop-j
invariant-loop-j l = l.w ≡ bits_value (λ i. get_or l.flags (l.base + i) false) l.j
