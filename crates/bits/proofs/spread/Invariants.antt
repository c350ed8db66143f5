-- `bits::spread`: the flags of the bits below j are set.
use Rattle.std.proofs.Common.{◌≡◌, ℕ, false, ◌<◌, get_or}
use Rattle.bits.specs.Bits.{bit_at}
use Rattle.bits.proofs.spread.Given as goal

abbrev pub invariant-loop-j : goal.invariant-loop-j
invariant-loop-j l = (k : ℕ) → k < l.j → get_or l.flag-items k false ≡ bit_at l.w k
