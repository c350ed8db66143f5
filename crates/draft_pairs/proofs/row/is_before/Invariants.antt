-- `is_before`: the rows agree below digit k.
use Rattle.std.proofs.Common.{◌≡◌, take}
use Rattle.draft_pairs.proofs.row.is_before.Given as goal

abbrev pub invariant-loop-k : goal.invariant-loop-k
invariant-loop-k l = take l.k l.a ≡ take l.k l.b
