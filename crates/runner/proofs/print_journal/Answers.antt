-- `print_journal`: the words shown are words of the journal.
use Rattle.std.proofs.Common.{arith}
use Rattle.words.specs.Word.{words}
use Rattle.runner_text.proofs.Shown.{shown_few}
use Rattle.runner.proofs.print_journal.Goals as goal

pub word_at-requires : goal.word_at-requires
word_at-requires g c = omega (arith, c.shown_words-k-end.ensures, shown_few (words c.args.journal.now))
