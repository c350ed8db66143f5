-- `row_of`: the number, and four digits that are 0.
use Rattle.draft_pairs.proofs.Rows.{row_alone}
use Rattle.draft_pairs.proofs.row.row_of.Goals as goal

pub returns : goal.returns
returns c = row_alone c.args.number
