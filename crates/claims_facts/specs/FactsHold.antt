-- Standing facts at each answered instant, of an instant call or of a run: "The closure of nothing may now hold tokens, even
-- the clash, and all that relies on closure follows. An aborted instant keeps its empty store."
--     HoldsFacts       the claim for one answered instant. If it is not aborted: each fact is in its store, and so is all that
--                      follows from the facts; if it has the clash, the status is 1. At status 0 what of it lies in the
--                      ports goes to the drives. With no agents and no inputs there is nothing else. An aborted instant has
--                      none of it, the first and each later one
--     FactsHold        it holds of every answered instant of a list of calls
use Rattle.std.specs.Prelude.{◌≡◌, cond, ℕ, suc, ◌≤◌}
use mathlib.Core.List.{List, [], Memᴰ}
use Rattle.laws.specs.Sets.{has}
use Rattle.tcc.specs.Closure.{Rule}
use Rattle.tcc.specs.Score.{Score}
use Rattle.tcc.specs.Store.{closure}
use Rattle.tcc.specs.Instant.{output, running, aborted}
use Rattle.format.specs.Decode.{decode}
use Rattle.lent.specs.States.{agents_in, instant_number, numbered}
use Rattle.lent_maps.specs.Maps.{tokens_in, map_of}
use Rattle.claims_demands.specs.Calls.{Call, InTurn, Answered, Answers}
use Rattle.claims_demands.specs.Determinacy.{Running}
use Rattle.claims_demands.specs.Operational.{Holds}

pub record HoldsFacts (sc : Score) (p : Answered) : Type 0 where
  pub fact : (p.status ≡ 2 → ⊥) → (r : Rule ℕ) → Memᴰ r sc.rules → r.premises ≡ [] → Memᴰ r.conclusion (tokens_in p.store)
  pub stored : (p.status ≡ 2 → ⊥) → (t : ℕ) → Memᴰ t (closure sc []) → Memᴰ t (tokens_in p.store)
  pub sent : p.status ≡ 0 → (t : ℕ) → Memᴰ t (closure sc []) → sc.lowest_port ≤ t → t ≤ sc.highest_port → Memᴰ t (tokens_in p.output)
  pub clash : (p.status ≡ 2 → ⊥) → Memᴰ 0 (closure sc []) → p.status ≡ 1
  pub alone : Running p.before → agents_in p.before ≡ [] → p.inputs ≡ [] →
      Holds p (cond (has 0 (closure sc [])) 1 0) (map_of (closure sc [])) (map_of (output sc (cond (has 0 (closure sc [])) 1 0) (closure sc []))) (numbered (running []) (suc (instant_number p.before)))
  pub none : p.status ≡ 2 → Holds p 2 (map_of []) (map_of []) (numbered aborted (suc (instant_number p.before)))

abbrev pub FactsHold : Type 0
FactsHold =
    (score first last : List ℕ) (calls : List Call) (answered : List Answered) → InTurn score first calls last → Answers score calls answered →
    (p : Answered) → Memᴰ p answered → HoldsFacts (decode score) p
