-- `check_faults::first_fault`: the faults from word 1 on are those from word k on.
use Rattle.std.proofs.Common.{◌≡◌, drop}
use Rattle.words.specs.Word.{words}
use Rattle.check_faults.specs.Faults.{first_fault}
use Rattle.check_faults.proofs.first_fault.Given as goal

abbrev pub invariant-loop-k : goal.invariant-loop-k
invariant-loop-k l = first_fault l.sizes 1 (drop 1 (words l.s)) ≡ first_fault l.sizes l.k (drop l.k (words l.s))
