-- An order of a lawful draft keeps to the draft's agents.
--     below_cons                one more known agent
--     inputs_below, start_below     the multiset that an instant starts with
--     rest_below, parts_below   the copies left, and the parts of the copy picked
--     step_below, order_below   a step keeps to the draft's agents, and so does an order
--     woken_below, awake_below  and so does what is awake next
use mathlib.Core.Path.{◌≡◌, refl}
use mathlib.Core.List.Memᴰ
use mathlib.Core.List.{List, [], ◌∷◌, map, Memᴰ}
use mathlib.Core.Logic.{◌⊎◌, inl, inr}
use Prim.Native.Nat.{ℕ, ◌<◌}
use native.Mathlib.Omega.{arith}
use lib.ListN.{length}
use Rattle.laws.proofs.Sets.{Within}
use Rattle.tcc.specs.Score.{parts_of}
use Rattle.draft_language.specs.Draft.{Draft, draft_agent_at, as_when, LawfulDraft}
use Rattle.draft_language.specs.Order.{Copy, Item, copy, input, Pick, Step, skip, tell, input_tell, parallel, call, when, unless, watch, left, Order, stop, step, awake_next, start}
use Rattle.draft_language.specs.WeightBound.{ItemsBelow, CopiesBelow}
use Rattle.draft_language.specs.declared.DraftAgent.{DraftAgent}
use Rattle.draft_language.proofs.Whens.{part_known, root_known}
use Rattle.draft_language.proofs.Steps.{pick_member, pick_left}
use Rattle.draft_language.proofs.Awake.{Wakes, by_next, by_unless, on_awake}

module _ (d : Draft) where
  below_cons : {i : ℕ} {set : List ℕ} {l : List Item} → i < length d.agents → ItemsBelow d l → ItemsBelow d (copy i set ∷ l)
  below_cons {i} {set} {l} h below j under m = go (Memᴰ.cases_cons m)
    where
      go : (copy j under ≡ copy i set) ⊎ Memᴰ (copy j under) l → j < length d.agents
      go (inl e) = let q : j ≡ i = cc in omega arith
      go (inr m') = below j under m'

  inputs_below : (inputs : List ℕ) → ItemsBelow d (map input inputs)
  inputs_below inputs i set m = let (t, at, e) = Memᴰ.of_map input inputs m in let z : ◌≡◌ {A = ℕ} 0 1 = cc in omega arith

  pub start_below : (copies : List Copy) (inputs : List ℕ) → CopiesBelow d copies → ItemsBelow d (start copies inputs)
  start_below [] inputs below = inputs_below inputs
  start_below (c ∷ copies) inputs below =
      below_cons (below c (Memᴰ.head refl)) (start_below copies inputs (λ b m. below b (Memᴰ.tail m)))

module _ (d : Draft) (law : LawfulDraft d) where
  rest_below : {x : Item} {l k : List Item} → Pick x l k → ItemsBelow d l → ItemsBelow d k
  rest_below p below i set m = below i set (pick_left p (copy i set) m)

  parts_below : {i : ℕ} {set : List ℕ} {l k : List Item} {x : DraftAgent} → Pick (copy i set) l k → draft_agent_at d i ≡ x → ItemsBelow d l → Within (λ b. b < length d.agents) (parts_of (as_when x))
  parts_below {i} {set} p e below = part_known d law i (below i set (pick_member p)) e

  pub step_below : {x : Item} {l k : List Item} {s s' : List ℕ} → Step d x l s k s' → ItemsBelow d l → ItemsBelow d k
  step_below (skip p e) below = rest_below p below
  step_below (tell p e c) below = rest_below p below
  step_below (input_tell p c) below = rest_below p below
  step_below (parallel p e) below = let known = parts_below p e below in below_cons d (known _ (Memᴰ.head refl)) (below_cons d (known _ (Memᴰ.tail (Memᴰ.head refl))) (rest_below p below))
  step_below (call {i = i} {p = q} p e) below = below_cons d (root_known d law i q e) (rest_below p below)
  step_below (when p e m) below = below_cons d (parts_below p e below _ (Memᴰ.head refl)) (rest_below p below)
  step_below (unless p e m) below = rest_below p below
  step_below (watch p e) below = below_cons d (parts_below p e below _ (Memᴰ.head refl)) (rest_below p below)

  pub order_below : {l k steps : List Item} {s s' : List ℕ} → Order d l s steps (left k s') → ItemsBelow d l → ItemsBelow d k
  order_below stop below = below
  order_below (step st o) below = order_below o (step_below st below)

  woken_below : (i : ℕ) → i < length d.agents → (b : ℕ) → Wakes (draft_agent_at d i) b → b < length d.agents
  woken_below i known b (by_next e) = part_known d law i known e b (Memᴰ.head refl)
  woken_below i known b (by_unless e) = part_known d law i known e b (Memᴰ.head refl)

  pub awake_below : (s : List ℕ) (l : List Item) → ItemsBelow d l → CopiesBelow d (awake_next d s l)
  awake_below s l below = on_awake (λ c. c.agent < length d.agents) d s l (λ i set m e. woken_below i (below i set m))
