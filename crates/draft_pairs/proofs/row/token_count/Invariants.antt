-- `token_count`: n is the number of tokens below t that the set has.
use Rattle.std.proofs.Common.{◌≡◌, ◌≤◌, length}
use Rattle.laws.specs.Sets.{below, keep}
use Rattle.draft_pairs.specs.TokenSets.{holds}
use Rattle.draft_pairs.specs.Pairs.{set_in}
use Rattle.draft_pairs.specs.Rows.{row_value}
use Rattle.draft_pairs.proofs.row.token_count.Given as goal

abbrev pub invariant-loop-t : goal.invariant-loop-t
invariant-loop-t l = (l.n ≡ length (keep (holds (set_in (row_value l.row))) (below l.t))) × (l.n ≤ l.t)
