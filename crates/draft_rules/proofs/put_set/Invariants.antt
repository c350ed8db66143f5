-- `put_set`: the words of the rules from the members below a token are put.
use Rattle.std.proofs.Common.{◌≡◌, ◌+◌, length}
use Rattle.draft_pairs.specs.Pairs.{set_in}
use Rattle.draft_pairs.specs.Rows.{row_value}
use Rattle.bits.specs.Put.{put}
use Rattle.draft_rules.proofs.Members.{rule_words, held_below}
use Rattle.draft_rules.proofs.put_set.Given as goal

abbrev pub invariant-loop-token : goal.invariant-loop-token
invariant-loop-token l =
    let held = held_below (set_in (row_value l.set)) l.token in
    (length l.plain ≡ length l.initial.plain) × (l.at ≡ l.from + length held) × (l.plain ≡ put l.from (rule_words l.conclusion held) l.initial.plain)
