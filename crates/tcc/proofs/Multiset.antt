-- Multisets of items, and what a step of an order does to one.
--     summed                a number of each element, summed over a list
--     summed_none, summed_one     of nothing it is nothing, of one the length
--     pick_summed           a picked copy's number is part of the sum
--     below_cons            one more known agent
--     start_below           the multiset that an instant starts with
--     part_lower, part_below     a body or half is lower than its agent, so known
--     call_known            the procedure that an agent calls is known
--     root_below            and so is its root
--     step_below            a step of a lawful score keeps to the score's agents
--     order_below           and so does an order
use mathlib.Core.Path.{◌≡◌, refl, sym, subst}
use mathlib.Core.List.Memᴰ
use mathlib.Core.List.{List, [], ◌∷◌, map, Memᴰ}
use mathlib.Core.Logic.{◌⊎◌, inl, inr}
use Prim.Native.Nat.{ℕ, ◌+◌, ◌<◌}
use native.Mathlib.Omega.{arith}
use lib.ListN.{length}
use Rattle.laws.proofs.Sets.{Within}
use Rattle.tcc.specs.Score.{Score, agent_at, root_of, parts_of, procedures_of}
use Rattle.tcc.specs.Lawful.{Lawful, AgentsBelow}
use Rattle.tcc.specs.Order.{Item, agent, input, Pick, here, there, Step, skip, tell, input_tell, parallel, call, when, unless, left, Order, stop, step, start}
use Rattle.tcc.specs.WeightBound.{ItemsBelow}
use Rattle.tcc.specs.declared.Agent.{Agent}
use Rattle.tcc.specs.declared.Agent.TheVariants.{Call}
use Rattle.tcc.proofs.Order.{pick_member, pick_left}

abbrev pub summed : {A : Type 0} → (A → ℕ) → List A → ℕ
summed f [] = 0
summed f (x ∷ l) = f x + summed f l

pub summed_none : {A : Type 0} (l : List A) → summed (λ x. 0) l ≡ 0
summed_none [] = refl
summed_none (x ∷ l) = omega (arith, summed_none l)

pub summed_one : {A : Type 0} (l : List A) → summed (λ x. 1) l ≡ length l
summed_one [] = refl
summed_one (x ∷ l) = omega (arith, summed_one l)

pub pick_summed : (f : Item → ℕ) {x : Item} {l k : List Item} → Pick x l k → summed f l ≡ f x + summed f k
pick_summed f here = refl
pick_summed f (there p) = omega (arith, pick_summed f p)

module _ (sc : Score) where
  pub below_cons : {i : ℕ} {l : List Item} → i < length sc.agents → ItemsBelow sc l → ItemsBelow sc (agent i ∷ l)
  below_cons {i} {l} h below j m = go (Memᴰ.cases_cons m)
    where
      go : (agent j ≡ agent i) ⊎ Memᴰ (agent j) l → j < length sc.agents
      go (inl e) = let q : j ≡ i = cc in omega arith
      go (inr m') = below j m'

  inputs_below : (inputs : List ℕ) → ItemsBelow sc (map input inputs)
  inputs_below inputs i m = let (t, at, e) = Memᴰ.of_map input inputs m in let z : ◌≡◌ {A = ℕ} 0 1 = cc in omega arith

  pub start_below : (agents inputs : List ℕ) → AgentsBelow sc agents → ItemsBelow sc (start agents inputs)
  start_below [] inputs below = inputs_below inputs
  start_below (i ∷ agents) inputs below =
      below_cons (below i (Memᴰ.head refl)) (start_below agents inputs (λ j m. below j (Memᴰ.tail m)))

module _ (sc : Score) (law : Lawful sc) where
  pub part_lower : (i : ℕ) {a : Agent} → agent_at sc i ≡ a → Within (λ b. b < i) (parts_of a)
  part_lower i e b m = law.parts_lower i b (subst (λ a. Memᴰ b (parts_of a)) (sym e) m)

  pub part_below : (i : ℕ) {a : Agent} → i < length sc.agents → agent_at sc i ≡ a → Within (λ b. b < length sc.agents) (parts_of a)
  part_below i h e b m = omega (arith, part_lower i e b m)

  pub call_known : (i p : ℕ) → agent_at sc i ≡ Call p → p < length sc.roots
  call_known i p e = law.procedures_known i p (subst (λ a. Memᴰ p (procedures_of a)) (sym e) (Memᴰ.head refl))

  pub root_below : (i p : ℕ) → agent_at sc i ≡ Call p → root_of sc p < length sc.agents
  root_below i p e = law.roots_known p (call_known i p e)

  rest_below : {x : Item} {l k : List Item} → Pick x l k → ItemsBelow sc l → ItemsBelow sc k
  rest_below p below j m = below j (pick_left p (agent j) m)

  pub step_below : {x : Item} {l k : List Item} {s s' : List ℕ} → Step sc x l s k s' → ItemsBelow sc l → ItemsBelow sc k
  step_below (skip p e) below = rest_below p below
  step_below (tell p e c) below = rest_below p below
  step_below (input_tell p c) below = rest_below p below
  step_below (parallel {i = i} {a = a} {b = b} p e) below =
      let h = below i (pick_member p) in
      below_cons sc (part_below i h e a (Memᴰ.head refl)) (below_cons sc (part_below i h e b (Memᴰ.tail (Memᴰ.head refl))) (rest_below p below))
  step_below (call {i = i} {p = q} p e) below = below_cons sc (root_below i q e) (rest_below p below)
  step_below (when {i = i} {b = b} p e m) below = below_cons sc (part_below i (below i (pick_member p)) e b (Memᴰ.head refl)) (rest_below p below)
  step_below (unless p e m) below = rest_below p below

  pub order_below : {l k steps : List Item} {s s' : List ℕ} → Order sc l s steps (left k s') → ItemsBelow sc l → ItemsBelow sc k
  order_below stop below = below
  order_below (step d o) below = order_below o (step_below d below)
