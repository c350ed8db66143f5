-- `plain_unless`: an unless asks for its own token together with its set.
use mathlib.Core.List.Memᴰ
use Rattle.std.proofs.Common.{refl}
use Rattle.draft_words.proofs.Standing.{listing, part_stands, token_few, asks_stands, unless_asked, unless_asks}
use Rattle.draft_words.proofs.agents.plain_unless.Goals as goal

pub stands_at-b-requires-clause-reference_lt_agents : goal.stands_at-b-requires-clause-reference_lt_agents
stands_at-b-requires-clause-reference_lt_agents c =
    let listed = listing c.args.source.gathered c.requires.fact c.requires.row_value in
    (part_stands listed c.args.body (Memᴰ.head refl)).1.0

pub stands_at-b-requires-clause-fact : goal.stands_at-b-requires-clause-fact
stands_at-b-requires-clause-fact c =
    let listed = listing c.args.source.gathered c.requires.fact c.requires.row_value in
    (part_stands listed c.args.body (Memᴰ.head refl)).1.1

pub with_token-asked-requires : goal.with_token-asked-requires
with_token-asked-requires c =
    let listed = listing c.args.source.gathered c.requires.fact c.requires.row_value in
    token_few listed c.args.token (Memᴰ.head refl)

pub asked_token-requires-clause-tokens_le_most_tokens : goal.asked_token-requires-clause-tokens_le_most_tokens
asked_token-requires-clause-tokens_le_most_tokens c =
    let listed = listing c.args.source.gathered c.requires.fact c.requires.row_value in
    (asks_stands listed _ (Memᴰ.head (unless_asked listed c.with_token-asked.ensures))).0

pub asked_token-requires-clause-by_index : goal.asked_token-requires-clause-by_index
asked_token-requires-clause-by_index c =
    let listed = listing c.args.source.gathered c.requires.fact c.requires.row_value in
    (asks_stands listed _ (Memᴰ.head (unless_asked listed c.with_token-asked.ensures))).1.0

pub asked_token-requires-clause-rising : goal.asked_token-requires-clause-rising
asked_token-requires-clause-rising c =
    let listed = listing c.args.source.gathered c.requires.fact c.requires.row_value in
    (asks_stands listed _ (Memᴰ.head (unless_asked listed c.with_token-asked.ensures))).1.1.1.1.0

pub asked_token-requires-clause-fact : goal.asked_token-requires-clause-fact
asked_token-requires-clause-fact c =
    let listed = listing c.args.source.gathered c.requires.fact c.requires.row_value in
    (asks_stands listed _ (Memᴰ.head (unless_asked listed c.with_token-asked.ensures))).1.1.1.1.1

pub returns : goal.returns
returns c =
    let listed = listing c.args.source.gathered c.requires.fact c.requires.row_value in
    unless_asks listed c.with_token-asked.ensures c.asked_token.ensures c.stands_at-b.ensures
