-- `has_token`: a bit of the token's digit.
use Rattle.draft_pairs.proofs.Rows.{digits, row_holds}
use Rattle.draft_pairs.specs.TokenSets.{holds}
use Rattle.draft_pairs.proofs.row.has_token.Goals as goal

pub returns : goal.returns
unfolding holds
returns c = row_holds (digits c.well_formed.0) c.args.token c.requires
