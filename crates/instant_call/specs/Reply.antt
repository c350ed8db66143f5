-- What an instant call answers.
--     Reply          the status and the count of an answered instant, or a refusal
use Rattle.std.specs.Prelude.{Result}
use Rattle.refusals.specs.declared.Refusal.{Refusal}
use Rattle.instant_call.specs.declared.Settled.{Settled}

abbrev pub Reply : Type 0
Reply = Result Settled Refusal
