-- Demand 3.
use mathlib.Core.Path.{subst}
use Rattle.claims_demands.specs.Calls.{instant, run}
use Rattle.claims_demands.specs.Determinacy.{Determinacy}
use Rattle.claims_demands.proofs.Instants.{refused_state}
use Rattle.claims_demands.proofs.Linked.{Linked}
use Rattle.claims_demands.proofs.Runs.{run_shown}
use Rattle.claims_demands.proofs.Calls.{linked, calls_meet}
use Rattle.claims_demands.proofs.Chained.{at_instant}

pub determinacy : Determinacy
determinacy score w first last calls answered runs is turn answers = record {
  orders = λ earlier later p e copies awake same chain. at_instant earlier later p runs (subst (λ l. Linked score first l last) e (linked turn answers)) same chain w is;
  runs = λ inputs before after answer m played ends plays. run_shown (calls_meet turn (run inputs before after answer) m) plays;
  refused = λ input before after answer m n. refused_state (calls_meet turn (instant input before after answer) m) n;
}
