-- Where a token of a copy's set is in the store at quiet, nothing of that copy is awake next.
--     stopped             with such a copy or without it, the same is awake next
--     awake_unwatched     no copy that is awake next stands under a token of the store
--     stopped_act         both
use mathlib.Core.Path.{◌≡◌, ap}
use mathlib.Core.Bool.{cond}
use mathlib.Core.List.{List, [], ◌++◌, Memᴰ}
use Prim.Native.Nat.{ℕ}
use Rattle.laws.proofs.Booleans.{true_is_false}
use Rattle.draft_language.specs.Draft.{Draft, draft_agent_at}
use Rattle.draft_language.specs.Order.{Copy, Item, copy, input, Pick, here, there, watched, wakes, awake_next}
use Rattle.draft_language.specs.StoppedAct.{StoppedAct}
use Rattle.draft_language.proofs.Awake.{some_watched, on_awake}

stopped : (d : Draft) (s : List ℕ) (i : ℕ) (set : List ℕ) (t : ℕ) {l k : List Item} → Pick (copy i set) l k → Memᴰ t set → Memᴰ t s → awake_next d s l ≡ awake_next d s k
stopped d s i set t here at held = rw (some_watched at held)
stopped d s i set t (there {y = copy j under} p) at held = ap (λ woken. cond (watched s under) [] (wakes under (draft_agent_at d j)) ++ woken) (stopped d s i set t p at held)
stopped d s i set t (there {y = input u} p) at held = stopped d s i set t p at held

awake_unwatched : (d : Draft) (s : List ℕ) (l : List Item) (c : Copy) → Memᴰ c (awake_next d s l) → (t : ℕ) → Memᴰ t c.under → Memᴰ t s → ⊥
awake_unwatched d s l = on_awake (λ c. (t : ℕ) → Memᴰ t c.under → Memᴰ t s → ⊥) d s l (λ i set m e b wakes t at held. true_is_false (some_watched at held) e)

pub stopped_act : StoppedAct
stopped_act = (λ d s l k i set t. stopped d s i set t, awake_unwatched)
