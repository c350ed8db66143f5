-- `put_procedures`: the words of the first k procedures are put.
use Rattle.std.proofs.Common.{◌≡◌, ◌+◌, length}
use Rattle.draft_plain.specs.Plain.{plain_of}
use Rattle.encoding.specs.Encode.{root_word}
use Rattle.bits.proofs.Put.{Putting}
use Rattle.draft_format.specs.DraftFile.{decode_draft}
use Rattle.draft_words.proofs.put_procedures.Given as goal

abbrev pub invariant-loop-k : goal.invariant-loop-k
invariant-loop-k l = (length l.plain ≡ length l.initial.plain) × Putting root_word (plain_of (decode_draft l.source.draft.now)).roots (2 + l.source.n.copied) l.initial.plain l.k l.plain
