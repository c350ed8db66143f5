-- Demand 2.
use Rattle.claims_demands.specs.Operational.{Operational}
use Rattle.claims_demands.proofs.Linked.{linked_each}
use Rattle.claims_demands.proofs.Calls.{linked}
use Rattle.claims_demands.proofs.Rules.{by_the_rules}

pub operational : Operational
operational score first last calls answered turn answers p m = by_the_rules (linked_each (linked turn answers) p m)
