-- `journal_words::size`: one word, and one for each token.
use Rattle.std.proofs.Common.{arith}
use Rattle.flags.specs.Flags.{set_of}
use Rattle.journal_words.proofs.Put.{instant_length}
use Rattle.journal_words.proofs.size.Goals as goal

pub returns-clause-by_index_3 : goal.returns-clause-by_index_3
returns-clause-by_index_3 c status = omega (arith, instant_length status (set_of c.args.inputs.now) (set_of c.args.outputs.now))
