use Rattle.instant_store.proofs.Passes.{Passing}
use Rattle.instant_store.proofs.rule_pass.Given as goal

abbrev pub invariant-loop-k : goal.invariant-loop-k
invariant-loop-k l = Passing l.prepared.bytes.now l.k l.facts l.fn.store l.store l.added
