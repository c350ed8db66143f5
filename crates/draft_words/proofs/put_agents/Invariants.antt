-- `put_agents`: the words of the first k agents are put.
use Rattle.std.proofs.Common.{◌≡◌, length}
use Rattle.draft_plain.specs.Plain.{plain_of}
use Rattle.encoding.specs.Encode.{agent_word}
use Rattle.bits.proofs.Put.{Putting}
use Rattle.draft_format.specs.DraftFile.{decode_draft}
use Rattle.draft_words.proofs.put_agents.Given as goal

abbrev pub invariant-loop-k : goal.invariant-loop-k
invariant-loop-k l = (length l.plain ≡ length l.initial.plain) × Putting agent_word (plain_of (decode_draft l.source.draft.now)).agents 2 l.initial.plain l.k l.plain
