-- `gather_sets`: what is known once the asked sets are entered, and each limit.
--     bounds            how large the head and the draft can be
--     asked             the asked sets stand in their table
use Rattle.std.proofs.Common.{arith}
use Rattle.draft_gathering.proofs.Stages.{accepted_translatable, fit_bounds, AskedIn, tokens_below, many_tokens, many_rules, all_gathered}
use Rattle.draft_gathering.proofs.gather_sets.Goals as goal
use Rattle.draft_gathering.proofs.gather_sets.Goals.{After-enter_asked-count}

asked : (c : After-enter_asked-count) → AskedIn c.args.draft.now c.args.head c.args.table.now c.enter_asked-count.new.sets c.args.pairs c.args.copied c.enter_asked-count.result
asked c =
    let e = c.enter_asked-count.ensures in
    record {
      fit = c.requires.pairs_fit;
      translatable = accepted_translatable c.args.draft.now (λ i. omega (arith, c.type_inv.draft i)) c.requires.pairs_fit.accepted;
      are = e.sets_after;
      few = e.upper_bound;
      long = e.sets_len_2;
    }

pub enter_asked-count-requires-clause-translatable : goal.enter_asked-count-requires-clause-translatable
enter_asked-count-requires-clause-translatable c = accepted_translatable c.args.draft.now (λ i. omega (arith, c.type_inv.draft i)) c.requires.pairs_fit.accepted

pub overflow_add-head : goal.overflow_add-head
overflow_add-head c = let x = (goal.at.overflow_add-head c).After-enter_asked-count in omega (arith, fit_bounds c.requires.pairs_fit, (asked x).few, (asked x).fit.copied_fit)

pub returns-then-head-count-gt-MOST_TOKENS : goal.returns-then-head-count-gt-MOST_TOKENS
returns-then-head-count-gt-MOST_TOKENS c = many_tokens (asked (goal.at.returns-then-head-count-gt-MOST_TOKENS c).After-enter_asked-count) (omega arith)

pub overflow_add-rules : goal.overflow_add-rules
overflow_add-rules c = omega (arith, fit_bounds c.requires.pairs_fit)

pub overflow_add-rules-2 : goal.overflow_add-rules-2
overflow_add-rules-2 c = omega (arith, fit_bounds c.requires.pairs_fit)

pub overflow_sub-rules : goal.overflow_sub-rules
overflow_sub-rules c = omega (arith, fit_bounds c.requires.pairs_fit, c.word_count-words.ensures)

pub member_count-requires-clause-tokens_below : goal.member_count-requires-clause-tokens_below
member_count-requires-clause-tokens_below c = tokens_below (asked (goal.at.member_count-requires-clause-tokens_below c).After-enter_asked-count)

pub overflow_add-rules-3 : goal.overflow_add-rules-3
overflow_add-rules-3 c = omega (arith, fit_bounds c.requires.pairs_fit, c.word_count-words.ensures, c.member_count.ensures.upper_bound)

pub returns-then-rules-member_count-gt-MOST_RULES : goal.returns-then-rules-member_count-gt-MOST_RULES
returns-then-rules-member_count-gt-MOST_RULES c =
    many_rules (asked (goal.at.returns-then-rules-member_count-gt-MOST_RULES c).After-enter_asked-count) c.word_count-words.ensures c.member_count.ensures.value (omega arith)

pub returns : goal.returns
returns c =
    all_gathered (asked (goal.at.returns c).After-enter_asked-count) c.word_count-words.ensures c.member_count.ensures.value (omega arith) (omega arith)
