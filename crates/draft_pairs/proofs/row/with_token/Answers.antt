-- `with_token`: a power of 2 added to the token's digit, where its bit is clear.
use Rattle.std.proofs.Common.{sym, ap, ◌∙◌}
use Rattle.draft_pairs.specs.Pairs.{pair, number_in}
use Rattle.draft_pairs.specs.Rows.{row_value}
use Rattle.draft_pairs.proofs.TokenSets.{pair_parts, with_held}
use Rattle.draft_pairs.proofs.Rows.{digits, row_room, row_with}
use Rattle.draft_pairs.proofs.row.with_token.Goals as goal

pub returns-then-has_token : goal.returns-then-has_token
returns-then-has_token c =
    let number = number_in (row_value c.args.row) in
    sym (ap (pair number) (with_held _ _ (sym c.has_token.ensures ∙ c.if-has_token.true)) ∙ pair_parts (row_value c.args.row))

pub overflow_add-row : goal.overflow_add-row
overflow_add-row c =
    record { fits = row_room (digits c.well_formed.0) c.args.token c.requires (sym c.has_token.ensures ∙ c.if-has_token.false) }

pub returns : goal.returns
returns c = row_with (digits c.well_formed.0) c.args.token c.requires (sym c.has_token.ensures ∙ c.if-has_token.false)
