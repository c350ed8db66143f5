-- `lowest`: the members from token t on are all that the set has: no token below t is in it.
use Rattle.std.proofs.Common.{◌≡◌}
use Rattle.draft_pairs.specs.TokenSets.{members}
use Rattle.draft_pairs.specs.Pairs.{set_in}
use Rattle.draft_pairs.specs.Rows.{row_value}
use Rattle.draft_gathering.proofs.Members.{members_from}
use Rattle.draft_gathering.proofs.asked.lowest.Given as goal

abbrev pub invariant-loop-t : goal.invariant-loop-t
invariant-loop-t l =
    let set = set_in (row_value l.set) in
    members_from set l.tokens l.t ≡ members set
