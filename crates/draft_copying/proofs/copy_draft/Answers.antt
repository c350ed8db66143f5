-- `copy_draft`: the start is procedure 0 under no token.
--     start_key      its pair
use Rattle.std.proofs.Common.{◌≡◌, ap, ◌∙◌, subst}
use mathlib.Core.Path.{subst⁻¹}
use lib.Pow.{pow_pos}
use Rattle.laws.specs.Rising.{none}
use Rattle.draft_pairs.specs.Pairs.{pair, set_in}
use Rattle.draft_pairs.proofs.TokenSets.{set_pair}
use Rattle.draft_pairs.specs.Rows.{row_value}
use Rattle.draft_plain.specs.Places.{procedure_at}
use Rattle.draft_plain.specs.Led.{Led, first}
use Rattle.draft_format.specs.DraftFile.{decode_draft}
use Rattle.draft_copying.specs.Copied.{CopiedTo}
use Rattle.draft_copying.proofs.Copies.{copied_places}
use Rattle.draft_copying.proofs.copy_draft.Goals as goal
use Rattle.draft_copying.proofs.copy_draft.Goals.{After-row_of}

start_key : (c : After-row_of) → pair (procedure_at 0) (set_in (row_value c.row_of.result)) ≡ pair (procedure_at 0) 0
start_key c = ap (λ row. pair (procedure_at 0) (set_in row)) c.row_of.ensures ∙ ap (pair (procedure_at 0)) (set_pair 0 0 (pow_pos 256))

pub copy_procedure-requires-clause-led : goal.copy_procedure-requires-clause-led
copy_procedure-requires-clause-led c = subst⁻¹ (Led (decode_draft c.args.draft.now)) (start_key (goal.at.copy_procedure-requires-clause-led c).After-row_of) first

pub copy_procedure-requires-clause-rising : goal.copy_procedure-requires-clause-rising
copy_procedure-requires-clause-rising c = none

pub returns : goal.returns
returns c =
    let key = start_key (goal.at.returns c).After-row_of in
    copied_places c.copy_procedure.result c.requires.table_len (subst (λ k. CopiedTo (decode_draft c.args.draft.now) k 0 c.args.table.now c.copy_procedure.result c.copy_procedure.new.table) key c.copy_procedure.ensures)
