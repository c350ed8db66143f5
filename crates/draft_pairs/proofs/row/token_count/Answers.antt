-- `token_count`: at the end t is the bound, and the set has no token beyond it.
use Rattle.std.proofs.Common.{◌≡◌, ap, length, ◌∙◌, arith}
use Rattle.laws.specs.Sets.{below, keep}
use Rattle.draft_pairs.specs.TokenSets.{holds}
use Rattle.draft_pairs.specs.Pairs.{set_in}
use Rattle.draft_pairs.specs.Rows.{row_value}
use Rattle.draft_pairs.proofs.Rows.{members_kept}
use Rattle.draft_pairs.proofs.row.token_count.Goals as goal

pub returns-clause-value : goal.returns-clause-value
returns-clause-value c =
    let set = set_in (row_value c.args.row) in
    let tokens = c.args.tokens in
    let all : c.loop-t.t ≡ tokens = omega arith in
    c.loop-t.invariant.0 ∙ ap (λ t. length (keep (holds set) (below t))) all ∙ ap length (members_kept set tokens c.requires.tokens_bound c.requires.by_index)
