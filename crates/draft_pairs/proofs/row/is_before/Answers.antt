-- `is_before`: the first digits that differ decide.
use Rattle.std.proofs.Common.{arith}
use Rattle.draft_pairs.proofs.Rows.{digits, agree_apart}
use Rattle.draft_pairs.proofs.row.is_before.Goals as goal

pub returns-then-a-k : goal.returns-then-a-k
returns-then-a-k c =
    agree_apart (digits c.well_formed.0) (digits c.well_formed.1.0) c.loop-k.k (omega arith) c.loop-k.invariant c.if-a-k.true
