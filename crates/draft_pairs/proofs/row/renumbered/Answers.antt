-- `renumbered`: another first digit.
use Rattle.draft_pairs.proofs.Rows.{digits, row_renumbered}
use Rattle.draft_pairs.proofs.row.renumbered.Goals as goal

pub returns : goal.returns
returns c = row_renumbered (digits c.well_formed.0) c.args.number
