-- Contracts of inner functions: where a score stands, by whether it is running and the flags of its agents.
--     state_from     the state that it stands for
use Rattle.std.specs.Prelude.{Bool, cond, List}
use Rattle.tcc.specs.Instant.{State, running, aborted}
use Rattle.flags.specs.Flags.{set_of}

abbrev pub state_from : Bool → List Bool → State
state_from runs awake = cond runs (running (set_of awake)) aborted
