-- Demand 2: each answered instant, of an instant call or of a run, is what the operational rules give. Some finished order
-- from the agents awake ends with exactly this status, this store map, this output map and this next state, and so does
-- every finished order. From an aborted state nothing is reduced: status 2, empty maps, and the state stays aborted. Each
-- instant adds one to the number in the state.
--     Leaves           the bytes that an order's end gives
--     ByTheRules       the claim for one answered instant
--     Operational      it holds of every answered instant of a list of calls
use Rattle.std.specs.Prelude.{◌≡◌, cond, ℕ, suc}
use mathlib.Core.List.{List, [], Memᴰ}
use Rattle.laws.specs.Sets.{has}
use Rattle.tcc.specs.Score.{Score}
use Rattle.tcc.specs.Store.{Closes}
use Rattle.tcc.specs.Order.{Item, End, aborted, left, Order, Finished, awake_next, start}
use Rattle.tcc.specs.Instant.{output, running}
use Rattle.tcc.specs.Instant as state
use Rattle.format.specs.Decode.{decode}
use Rattle.lent.specs.States.{agents_in, state_of, instant_number, numbered}
use Rattle.lent_maps.specs.Maps.{map_of}
use Rattle.claims_demands.specs.Calls.{Call, InTurn, Answered, Answers}
use Rattle.claims_demands.specs.Determinacy.{Running}

pub record Holds (p : Answered) (status : ℕ) (store sent after : List ℕ) : Type 0 where
  pub status_is : p.status ≡ status
  pub store_is : p.store ≡ store
  pub output_is : p.output ≡ sent
  pub after_is : p.after ≡ after

abbrev pub Leaves : Score → End → Answered → Type 0
Leaves sc aborted p = Holds p 2 (map_of []) (map_of []) (numbered state.aborted (suc (instant_number p.before)))
Leaves sc (left l s) p = Holds p (cond (has 0 s) 1 0) (map_of s) (map_of (output sc (cond (has 0 s) 1 0) s)) (numbered (running (awake_next sc l)) (suc (instant_number p.before)))

pub record ByTheRules (sc : Score) (p : Answered) : Type 0 where
  pub every : Running p.before → (s : List ℕ) (steps : List Item) (e : End) → Closes sc [] s → Order sc (start (agents_in p.before) p.inputs) s steps e → Finished sc e → Leaves sc e p
  pub some : Running p.before → (s : List ℕ) → Closes sc [] s → (steps : List Item) × (e : End) × Order sc (start (agents_in p.before) p.inputs) s steps e × Finished sc e × Leaves sc e p
  pub from_aborted : state_of p.before ≡ state.aborted → Holds p 2 (map_of []) (map_of []) (numbered state.aborted (suc (instant_number p.before)))

abbrev pub Operational : Type 0
Operational =
    (score first last : List ℕ) (calls : List Call) (answered : List Answered) → InTurn score first calls last → Answers score calls answered →
    (p : Answered) → Memᴰ p answered → ByTheRules (decode score) p
