-- Number 11 is never returned.
use Rattle.claims_demands.specs.Calls.{NoEleven}
use Rattle.claims_demands.proofs.Instants.{instant_eleven}
use Rattle.claims_demands.proofs.Runs.{run_eleven}

pub no_eleven : NoEleven
no_eleven = (λ score input before after answer c. instant_eleven c, λ score inputs before after answer c. run_eleven c)
