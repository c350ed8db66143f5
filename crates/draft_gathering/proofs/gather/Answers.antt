-- `gather`: the pairs, parted into those of agents and those of procedures, and each limit.
--     parted            the pairs of agents stand before those of procedures
use Rattle.std.proofs.Common.{subst, arith}
use mathlib.Core.Path.{subst⁻¹}
use Rattle.laws.specs.Rising.{Rising}
use Rattle.check_score.proofs.Stages.{head_read}
use Rattle.draft_table.specs.Tables.{keys, Placed}
use Rattle.draft_plain.proofs.Copying.{places_rising}
use Rattle.draft_format.specs.DraftFile.{decode_draft}
use Rattle.draft_gathering.proofs.Limits.{Parted, table_parted, many_agents, many_procedures}
use Rattle.draft_gathering.proofs.Stages.{accepted_translatable, pairs_gathered}
use Rattle.draft_gathering.proofs.gather.Goals as goal
use Rattle.draft_gathering.proofs.gather.Goals.{After-place-copied, then-copied-gt-MOST_AGENTS-via-then-copied-gt-MOST_AGENTS, then-copied-gt-MOST_AGENTS-via-else-copied-gt-MOST_AGENTS+then-pairs-copied-gt-MOST_PROCEDURES}

parted : (c : After-place-copied) → Parted (decode_draft c.args.draft.now) c.copy_draft.new.table c.in_ok-pairs.pairs c.place-copied.result
parted c =
    let (few, exact) = c.in_ok-pairs.ensures.exact in
    table_parted (omega (arith, c.in_ok-pairs.ensures.long, few)) exact
    (subst (λ k. Placed (keys c.in_ok-pairs.pairs c.copy_draft.new.table) k c.place-copied.result) c.row_of.ensures c.place-copied.ensures)

pub word_at-requires : goal.word_at-requires
word_at-requires c = omega (arith, (accepted_translatable c.args.draft.now (λ i. omega (arith, c.type_inv.draft i)) c.requires.draft_value).whole)

pub copy_draft-requires-clause-translatable : goal.copy_draft-requires-clause-translatable
copy_draft-requires-clause-translatable c = accepted_translatable c.args.draft.now (λ i. omega (arith, c.type_inv.draft i)) c.requires.draft_value

pub place-copied-requires-clause-rising : goal.place-copied-requires-clause-rising
place-copied-requires-clause-rising c = subst⁻¹ Rising c.in_ok-pairs.ensures.exact.1 (places_rising _)

pub returns-then-copied-gt-MOST_AGENTS : goal.returns-then-copied-gt-MOST_AGENTS
returns-then-copied-gt-MOST_AGENTS c =
    let p = parted (goal.at.returns-then-copied-gt-MOST_AGENTS c).After-place-copied in
    elim c.then-copied-gt-MOST_AGENTS.branch [
      | then-copied-gt-MOST_AGENTS-via-then-copied-gt-MOST_AGENTS w ↦ many_agents p (omega arith)
      | then-copied-gt-MOST_AGENTS-via-else-copied-gt-MOST_AGENTS+then-pairs-copied-gt-MOST_PROCEDURES w ↦ many_procedures p (omega arith)
    ]

pub gather_sets-requires-clause-pairs_fit : goal.gather_sets-requires-clause-pairs_fit
gather_sets-requires-clause-pairs_fit c =
    pairs_gathered c.requires.draft_value (head_read c.args.draft.now c.word_at.ensures c.sizes_of-head.ensures) c.in_ok-pairs.ensures
    (parted (goal.at.gather_sets-requires-clause-pairs_fit c).After-place-copied) (omega arith) (omega arith)
