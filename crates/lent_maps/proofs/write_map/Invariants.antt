-- `lent_maps::write_map`: the bytes below k are written.
use Rattle.std.proofs.Common.{◌≡◌}
use Rattle.lent_maps.proofs.MapWriting.{map_written}
use Rattle.lent_maps.proofs.write_map.Given as goal

abbrev pub invariant-loop-k : goal.invariant-loop-k
invariant-loop-k l = l.map ≡ map_written l.set l.k l.fn.map
