-- `lowest`: the members from 0 on are all; where a token is not in the set, those from it on are those from the next one on.
use Rattle.std.proofs.Common.{sym, ◌∙◌}
use Rattle.draft_pairs.specs.Pairs.{set_in}
use Rattle.draft_pairs.specs.Rows.{row_value}
use Rattle.draft_gathering.proofs.Members.{members_first, members_later}
use Rattle.draft_gathering.proofs.asked.lowest.Goals as goal

pub loop-t-init : goal.loop-t-init
loop-t-init c = members_first (set_in (row_value c.args.set)) c.args.tokens c.requires.tokens_le_most_tokens c.requires.by_index

pub loop-t-preserved : goal.loop-t-preserved
loop-t-preserved c =
    let clear = sym c.has_token.ensures ∙ c.if-has_token.false in
    sym (members_later (set_in (row_value c.args.set)) c.args.tokens c.loop-t.t c.loop-t-test.true clear) ∙ c.loop-t.invariant
