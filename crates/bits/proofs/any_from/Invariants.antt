-- `bits::any_from`: found says whether a flag is set below the index.
use Rattle.std.proofs.Common.{◌≡◌, false, ◌+◌, get_or, leb}
use mathlib.Core.Bool.{◌&&◌}
use Rattle.laws.specs.Sets.{any, below}
use Rattle.bits.proofs.any_from.Given as goal

abbrev pub invariant-loop-flag : goal.invariant-loop-flag
invariant-loop-flag l = l.found ≡ any (λ n. leb l.from n && get_or l.flags n false) (below (l.from + l.flag-index))
