-- An order is no longer than the summed weight of what it starts with.
--     item_weight      an agent's weight; an input token's is 1
--     weight_at        the equation of weight at an agent whose form is known
--     step_falls       every step makes the summed weight fall by 1 at least
--     order_bounded    the length of an order from any multiset
--     start_total      the summed weight of the multiset that an instant starts with
--     weight_bound     the theorem
use mathlib.Core.Path.{◌≡◌, refl, ap, ◌∙◌}
use mathlib.Core.List.{List, [], ◌∷◌, map}
use Prim.Native.Nat.{ℕ, ◌+◌, ◌<◌, ◌≤◌}
use native.Mathlib.Omega.{arith}
use lib.ListN.{length}
use Rattle.tcc.specs.Score.{Score, agent_at}
use Rattle.tcc.specs.Lawful.{Lawful}
use Rattle.tcc.specs.Order.{Item, agent, input, End, Step, skip, tell, input_tell, parallel, call, when, unless, Order, stop, step, abort, start}
use Rattle.tcc.specs.Weight.{IsWeight, weighs, total}
use Rattle.tcc.specs.WeightBound.{ItemsBelow, WeightBound}
use Rattle.tcc.specs.declared.Agent.{Agent}
use Rattle.tcc.proofs.Order.{pick_member}
use Rattle.tcc.proofs.Multiset.{summed, pick_summed, step_below, start_below}

abbrev pub item_weight : (ℕ → ℕ) → Item → ℕ
item_weight w (agent i) = w i
item_weight w (input t) = 1

module _ (sc : Score) (w : ℕ → ℕ) (is : IsWeight sc w) where
  weight_at : {i : ℕ} {a : Agent} → i < length sc.agents → agent_at sc i ≡ a → w i ≡ weighs sc w a
  weight_at {i} h e = is i h ∙ ap (weighs sc w) e

  pub step_falls : {x : Item} {l k : List Item} {s s' : List ℕ} → Step sc x l s k s' → ItemsBelow sc l → summed (item_weight w) k < summed (item_weight w) l
  step_falls (skip {i = i} p e) below = omega (arith, pick_summed (item_weight w) p, weight_at (below i (pick_member p)) e)
  step_falls (tell {i = i} p e c) below = omega (arith, pick_summed (item_weight w) p, weight_at (below i (pick_member p)) e)
  step_falls (input_tell p c) below = omega (arith, pick_summed (item_weight w) p)
  step_falls (parallel {i = i} p e) below = omega (arith, pick_summed (item_weight w) p, weight_at (below i (pick_member p)) e)
  step_falls (call {i = i} p e) below = omega (arith, pick_summed (item_weight w) p, weight_at (below i (pick_member p)) e)
  step_falls (when {i = i} p e m) below = omega (arith, pick_summed (item_weight w) p, weight_at (below i (pick_member p)) e)
  step_falls (unless {i = i} p e m) below = omega (arith, pick_summed (item_weight w) p, weight_at (below i (pick_member p)) e)

  pub order_bounded : {l steps : List Item} {s : List ℕ} {e : End} → Lawful sc → Order sc l s steps e → ItemsBelow sc l → length steps ≤ summed (item_weight w) l
  order_bounded law stop below = omega arith
  order_bounded law (step d rest) below = omega (arith, step_falls d below, order_bounded law rest (step_below sc law d below))
  order_bounded law (abort {i = i} p e) below = omega (arith, pick_summed (item_weight w) p, weight_at (below i (pick_member p)) e)

inputs_total : (w : ℕ → ℕ) (inputs : List ℕ) → summed (item_weight w) (map input inputs) ≡ length inputs
inputs_total w [] = refl
inputs_total w (t ∷ inputs) = omega (arith, inputs_total w inputs)

pub start_total : (w : ℕ → ℕ) (agents inputs : List ℕ) → summed (item_weight w) (start agents inputs) ≡ total w agents inputs
start_total w [] inputs = inputs_total w inputs
start_total w (i ∷ agents) inputs = ap (λ n. w i + n) (start_total w agents inputs)

pub weight_bound : WeightBound
weight_bound sc w agents inputs s steps e law is below o =
    rw (start_total w agents inputs) at (order_bounded sc w is law o (start_below sc agents inputs below))
