-- `asked_token`: a set of two tokens or more by its place, a smaller one by its lowest token.
use Rattle.std.proofs.Common.{◌∙◌, length, arith, lt-ltb, le-ltb}
use Rattle.draft_pairs.specs.TokenSets.{members}
use Rattle.draft_pairs.specs.Pairs.{set_in}
use Rattle.draft_pairs.specs.Rows.{row_value}
use Rattle.draft_table.specs.Tables.{keys}
use Rattle.draft_gathering.proofs.Members.{pair_first}
use Rattle.draft_gathering.proofs.AskedSets.{token_new, token_own}
use Rattle.draft_gathering.proofs.asked.asked_token.Goals as goal

pub returns-then-token_count-gt1 : goal.returns-then-token_count-gt1
returns-then-token_count-gt1 c =
    let set = set_in (row_value c.args.set) in
    let many = lt-ltb 1 (length (members set)) (omega arith) in
    token_new c.args.tokens c.requires.rising c.place.ensures (c.renumbered-key.ensures ∙ pair_first set) many (c.requires.fact many)

pub returns-else-token_count-gt1 : goal.returns-else-token_count-gt1
returns-else-token_count-gt1 c =
    let set = set_in (row_value c.args.set) in
    c.lowest.ensures ∙ token_own c.args.tokens (keys c.args.count c.args.sets.now) set (le-ltb 1 (length (members set)) (omega arith))
