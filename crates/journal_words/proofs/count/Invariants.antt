-- `journal_words::count`: n is the number of tokens below the index.
use Rattle.std.proofs.Common.{◌≡◌, length}
use Rattle.journal_words.proofs.Kept.{kept}
use Rattle.journal_words.proofs.count.Given as goal

abbrev pub invariant-loop-x : goal.invariant-loop-x
invariant-loop-x l = l.n ≡ length (kept l.set l.x-index)
