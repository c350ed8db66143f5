-- `put_rules`: the words of the first k rules are put.
use Rattle.std.proofs.Common.{◌≡◌, ◌+◌, length}
use Rattle.encoding.specs.Encode.{rule_word}
use Rattle.bits.proofs.Put.{Putting}
use Rattle.draft_format.specs.DraftFile.{decode_draft}
use Rattle.draft_rules.proofs.put_rules.Given as goal

abbrev pub invariant-loop-k : goal.invariant-loop-k
invariant-loop-k l = (length l.plain ≡ length l.initial.plain) × Putting rule_word (decode_draft l.source.draft.now).rules (2 + l.source.n.pairs) l.initial.plain l.k l.plain
