-- Contracts of inner functions: what the engine returns of an instant.
--     outcome_of     an answer, with the store and the agents awake next as flags
--     trial_of       its status and its store alone
use Rattle.tcc.specs.Instant.{Answer, count}
use Rattle.flags.specs.Flags.{flags_of}
use Rattle.instant_engine.specs.declared.Outcome.{Outcome}
use Rattle.instant_engine.specs.declared.Trial.{Trial}

unfoldable pub outcome_of : Answer → Outcome
outcome_of a = record { status = a.status; count = count a; store = flags_of 256 a.store; awake = flags_of 1024 a.awake }

unfoldable pub trial_of : Answer → Trial
trial_of a = record { status = a.status; store = flags_of 256 a.store }
