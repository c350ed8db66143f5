-- `tokens_in`: the flags of the tokens in the words before word k.
use Rattle.std.proofs.Common.{◌≡◌, take}
use Rattle.words.specs.Word.{words}
use Rattle.flags.specs.Flags.{flags_of}
use Rattle.journal_instants.specs.Instants.{tokens_of}
use Rattle.journal_instants.proofs.tokens_in.Given as goal

abbrev pub invariant-loop-k : goal.invariant-loop-k
invariant-loop-k l = l.flags ≡ flags_of 256 (tokens_of l.kind (take l.k (words l.bytes)))
