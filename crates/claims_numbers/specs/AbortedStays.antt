-- "Of an aborted state only this number changes" (W7), at the contracts of the exported functions.
--     AbortedStays      over a list of calls from an aborted state, whatever they are and however often
use Rattle.std.specs.Prelude.{◌≡◌, List, ℕ}
use Rattle.tcc.specs.Instant.{aborted}
use Rattle.lent.specs.States.{state_of, SameButNumber}
use Rattle.score.specs.Slice.{Slice}
use Rattle.claims_demands.specs.Calls.{Call, InTurn}

abbrev pub AbortedStays : Type 0
AbortedStays =
    (score first last : List ℕ) (calls : List Call) → Slice first → state_of first ≡ aborted → InTurn score first calls last → SameButNumber first last
