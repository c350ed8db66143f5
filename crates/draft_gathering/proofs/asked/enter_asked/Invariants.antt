-- `enter_asked`: the sets that the pairs so far ask for are in the table.
use Rattle.std.proofs.Common.{take}
use Rattle.draft_format.specs.DraftFile.{decode_draft}
use Rattle.draft_gathering.proofs.Entering.{Entering}
use Rattle.draft_gathering.proofs.asked.enter_asked.Given as goal

abbrev pub invariant-loop-row : goal.invariant-loop-row
invariant-loop-row l = Entering (decode_draft l.draft) (take l.agents l.table) l.row-index l.count l.sets
