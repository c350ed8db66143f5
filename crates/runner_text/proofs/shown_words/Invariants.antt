-- `shown_words`: the words before word k, and those from it on.
use Rattle.std.proofs.Common.{◌≡◌, ◌+◌, length, drop}
use Rattle.words.specs.Word.{words}
use Rattle.runner_text.specs.Shown.{shown}
use Rattle.runner_text.proofs.shown_words.Given as goal

abbrev pub invariant-loop-k : goal.invariant-loop-k
invariant-loop-k l = length (shown (words l.journal)) ≡ l.k + length (shown (drop l.k (words l.journal)))
