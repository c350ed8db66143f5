-- `span_of`: the part has the words before word k, and those from it on up to the next instant word.
use Rattle.std.proofs.Common.{◌≡◌, min, length}
use Rattle.words.specs.Word.{words}
use Rattle.journal_instants.specs.Parts.{span}
use Rattle.journal_instants.proofs.Parts.{span_from}
use Rattle.journal_instants.proofs.span_of.Given as goal

abbrev pub invariant-loop-k : goal.invariant-loop-k
invariant-loop-k l = span (words l.bytes) ≡ min (length (words l.bytes)) (span_from l.k (words l.bytes))
