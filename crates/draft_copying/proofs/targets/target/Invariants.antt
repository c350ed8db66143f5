-- `target`: wherever the loop stands, what it has come to leads where the reference leads.
use Rattle.draft_pairs.specs.Rows.{row_value}
use Rattle.draft_copying.proofs.Leading.{Going}
use Rattle.draft_copying.proofs.targets.target.Given as goal

abbrev pub invariant-loop-token : goal.invariant-loop-token
invariant-loop-token l = Going l.draft l.initial.i (row_value l.initial.row) l.i (row_value l.row)

-- the body of a watch has a lower number
abbrev pub decreases-loop-token : goal.decreases-loop-token
decreases-loop-token l = l.i
