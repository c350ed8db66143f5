-- The claim of demand 3 is not empty.
use Rattle.claims_demands.specs.Determinacy.{NotEmpty}
use Rattle.claims_demands.proofs.Calls.{linked, calls_answer}
use Rattle.claims_demands.proofs.Chained.{order_finishes}

pub not_empty : NotEmpty
not_empty = (
  λ score first last calls turn. calls_answer turn,
  λ score first last calls earlier later p copies awake s runs turn answers same chain. order_finishes earlier later p runs (linked turn answers) same chain s,
)
