-- `check_circles::mark_direct`: the rows below p mark what their procedures call.
use Rattle.std.proofs.Common.{ℕ, ◌<◌}
use Rattle.tcc.specs.Score.{root_of}
use Rattle.tcc.specs.Unguarded.{Leads}
use Rattle.format.specs.Decode.{decode}
use Rattle.check_calls.specs.Calls.{Exactly, called}
use Rattle.check_circles.proofs.mark_direct.Given as goal

abbrev pub invariant-loop-p : goal.invariant-loop-p
invariant-loop-p l = (j : ℕ) → j < l.p → (q : ℕ) → q < 64 → Exactly (called l.row-items j q) (Leads (decode l.s) (root_of (decode l.s) j) q)
