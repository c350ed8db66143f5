-- `lent_maps::read_map`: the flags below 8 k are set.
use Rattle.std.proofs.Common.{◌*◌}
use Rattle.words.specs.Map.{in_map}
use Rattle.bits.proofs.Filled.{Upto}
use Rattle.lent_maps.proofs.read_map.Given as goal

abbrev pub invariant-loop-k : goal.invariant-loop-k
invariant-loop-k l = Upto (in_map l.map) (8 * l.k) 256 l.flags
