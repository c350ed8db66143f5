-- `check_calls::close`: the rows are closed through each procedure below k.
use Rattle.std.proofs.Common.{◌≡◌, length}
use Rattle.check_calls.proofs.Rows.{Upto}
use Rattle.check_calls.proofs.close.Given as goal

abbrev pub invariant-loop-k : goal.invariant-loop-k
invariant-loop-k l =
    record {
      long : length l.rows ≡ 64;
      upto : Upto l.procedures l.k l.fn.rows l.rows;
    }
