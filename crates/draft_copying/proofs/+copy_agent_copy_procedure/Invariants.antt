-- `copy_agent` and `copy_procedure`: a pair is entered before the pairs that it leads to are copied, so that the room that is
-- left falls from call to call.
use Rattle.std.proofs.Common.{◌-◌}
use Rattle.draft_copying.proofs.+copy_agent_copy_procedure.Given as goal

abbrev pub decreases-copy_agent : goal.decreases-copy_agent
decreases-copy_agent l = 1089 - l.count

abbrev pub decreases-copy_procedure : goal.decreases-copy_procedure
decreases-copy_procedure l = 1089 - l.count
