-- `put_members`: the words of the rules from the first k sets are put.
use mathlib.Core.List.{map}
use Rattle.std.proofs.Common.{◌≡◌, ◌+◌, length, take}
use Rattle.encoding.specs.Encode.{rule_word}
use Rattle.bits.specs.Put.{put}
use Rattle.draft_plain.specs.Plain.{member_rules}
use Rattle.draft_gathering.specs.Gathered.{sets_in}
use Rattle.draft_rules.proofs.put_members.Given as goal

abbrev pub invariant-loop-k : goal.invariant-loop-k
invariant-loop-k l =
    let rules = member_rules l.source.n.tokens (take l.k (sets_in l.source.draft.now)) in
    (length l.plain ≡ length l.initial.plain) × (l.at ≡ l.from + length rules) × (l.plain ≡ put l.from (map rule_word rules) l.initial.plain)
