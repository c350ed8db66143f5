-- `part_at`: the journal's part at the position.
use Rattle.std.proofs.Common.{◌∙◌}
use Rattle.journal_positions.proofs.Positions.{size_part}
use Rattle.journal_positions.proofs.part_at.Goals as goal

pub returns : goal.returns
returns c = c.part.ensures ∙ size_part c.args.journal.now c.args.at
