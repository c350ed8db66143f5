-- `plain_next`: a next under no token stays one, and under a set it asks for that set.
use mathlib.Core.List.Memᴰ
use Rattle.std.proofs.Common.{refl}
use Rattle.draft_words.proofs.Standing.{listing, part_stands, asks_stands, next_stays, next_asks}
use Rattle.draft_words.proofs.agents.plain_next.Goals as goal

pub stands_at-b-requires-clause-reference_lt_agents : goal.stands_at-b-requires-clause-reference_lt_agents
stands_at-b-requires-clause-reference_lt_agents c =
    let listed = listing c.args.source.gathered c.requires.fact c.requires.row_value in
    (part_stands listed c.args.body (Memᴰ.head refl)).1.0

pub stands_at-b-requires-clause-fact : goal.stands_at-b-requires-clause-fact
stands_at-b-requires-clause-fact c =
    let listed = listing c.args.source.gathered c.requires.fact c.requires.row_value in
    (part_stands listed c.args.body (Memᴰ.head refl)).1.1

pub token_count-under_no_set-requires-clause-tokens_bound : goal.token_count-under_no_set-requires-clause-tokens_bound
token_count-under_no_set-requires-clause-tokens_bound c =
    let listed = listing c.args.source.gathered c.requires.fact c.requires.row_value in
    (asks_stands listed _ (Memᴰ.head refl)).0

pub token_count-under_no_set-requires-clause-by_index : goal.token_count-under_no_set-requires-clause-by_index
token_count-under_no_set-requires-clause-by_index c =
    let listed = listing c.args.source.gathered c.requires.fact c.requires.row_value in
    (asks_stands listed _ (Memᴰ.head refl)).1.0

pub returns-then-under_no_set : goal.returns-then-under_no_set
returns-then-under_no_set c =
    let listed = listing c.args.source.gathered c.requires.fact c.requires.row_value in
    next_stays listed c.token_count-under_no_set.ensures.value c.stands_at-b.ensures c.if-under_no_set.true

pub asked_token-requires-clause-tokens_le_most_tokens : goal.asked_token-requires-clause-tokens_le_most_tokens
asked_token-requires-clause-tokens_le_most_tokens c =
    let listed = listing c.args.source.gathered c.requires.fact c.requires.row_value in
    (asks_stands listed _ (Memᴰ.head refl)).0

pub asked_token-requires-clause-by_index : goal.asked_token-requires-clause-by_index
asked_token-requires-clause-by_index c =
    let listed = listing c.args.source.gathered c.requires.fact c.requires.row_value in
    (asks_stands listed _ (Memᴰ.head refl)).1.0

pub asked_token-requires-clause-rising : goal.asked_token-requires-clause-rising
asked_token-requires-clause-rising c =
    let listed = listing c.args.source.gathered c.requires.fact c.requires.row_value in
    (asks_stands listed _ (Memᴰ.head refl)).1.1.1.1.0

pub asked_token-requires-clause-fact : goal.asked_token-requires-clause-fact
asked_token-requires-clause-fact c =
    let listed = listing c.args.source.gathered c.requires.fact c.requires.row_value in
    (asks_stands listed _ (Memᴰ.head refl)).1.1.1.1.1

pub returns : goal.returns
returns c =
    let listed = listing c.args.source.gathered c.requires.fact c.requires.row_value in
    next_asks listed c.token_count-under_no_set.ensures.value c.stands_at-b.ensures c.if-under_no_set.false c.asked_token.ensures
