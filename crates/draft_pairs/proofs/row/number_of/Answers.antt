-- `number_of`: the first digit.
use Rattle.draft_pairs.proofs.Rows.{digits, row_number}
use Rattle.draft_pairs.proofs.row.number_of.Goals as goal

pub returns : goal.returns
returns c = row_number (digits c.well_formed.0)
