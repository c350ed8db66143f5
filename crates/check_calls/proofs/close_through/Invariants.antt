-- `check_calls::close_through`: the step is done for the rows below the index.
use Rattle.std.proofs.Common.{take}
use Rattle.check_calls.proofs.Rows.{Half}
use Rattle.check_calls.proofs.close_through.Given as goal

abbrev pub invariant-loop-row : goal.invariant-loop-row
invariant-loop-row l = Half l.k l.row-index (take l.procedures l.fn.rows) l.row-items
