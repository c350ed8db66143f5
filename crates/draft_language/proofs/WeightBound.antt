-- An order of a draft is no longer than the summed weight of what it starts with.
--     item_weight      a copy's weight is its agent's, whatever it stands under; an input token's is 1
--     weight_at        the equation of weight at an agent whose form is known, a watch weighing as a when
--     pick_weighs      a picked copy's weight is part of the summed weight
--     step_falls       every step makes the summed weight fall by 1 at least
--     order_bounded    the length of an order from any multiset
--     inputs_total, start_total     the summed weight of the multiset that an instant starts with
--     weight_bound     the theorem
use mathlib.Core.Path.{◌≡◌, refl, ap, ◌∙◌}
use mathlib.Core.List.{List, [], ◌∷◌, map}
use Prim.Native.Nat.{ℕ, ◌+◌, ◌<◌, ◌≤◌}
use native.Mathlib.Omega.{arith}
use lib.ListN.{length}
use Rattle.tcc.specs.Weight.{IsWeight, weighs}
use Rattle.tcc.proofs.Multiset.{summed}
use Rattle.draft_language.specs.Draft.{Draft, draft_agent_at, as_when, whens, LawfulDraft}
use Rattle.draft_language.specs.Order.{Copy, Item, copy, input, End, Pick, Step, skip, tell, input_tell, parallel, call, when, unless, watch, Order, stop, step, abort, start}
use Rattle.draft_language.specs.WeightBound.{total, ItemsBelow, WeightBound}
use Rattle.draft_language.specs.declared.DraftAgent.{DraftAgent}
use Rattle.draft_language.proofs.Whens.{when_is, whens_many}
use Rattle.draft_language.proofs.Steps.{pick_member, pick_summed}
use Rattle.draft_language.proofs.Below.{step_below, start_below}

abbrev pub item_weight : (ℕ → ℕ) → Item → ℕ
item_weight w (copy i set) = w i
item_weight w (input t) = 1

module _ (d : Draft) (w : ℕ → ℕ) (is : IsWeight (whens d) w) where
  weight_at : {i : ℕ} {x : DraftAgent} → i < length d.agents → draft_agent_at d i ≡ x → w i ≡ weighs (whens d) w (as_when x)
  weight_at {i} h e = is i (omega (arith, whens_many d)) ∙ ap (weighs (whens d) w) (when_is d i e)

  pick_weighs : {i : ℕ} {set : List ℕ} {l k : List Item} {x : DraftAgent} → Pick (copy i set) l k → draft_agent_at d i ≡ x → ItemsBelow d l → summed (item_weight w) l ≡ weighs (whens d) w (as_when x) + summed (item_weight w) k
  pick_weighs {i} {set} p e below = omega (arith, pick_summed (item_weight w) p, weight_at (below i set (pick_member p)) e)

  pub step_falls : {x : Item} {l k : List Item} {s s' : List ℕ} → Step d x l s k s' → ItemsBelow d l → summed (item_weight w) k < summed (item_weight w) l
  step_falls (skip p e) below = omega (arith, pick_weighs p e below)
  step_falls (tell p e c) below = omega (arith, pick_weighs p e below)
  step_falls (input_tell p c) below = omega (arith, pick_summed (item_weight w) p)
  step_falls (parallel p e) below = omega (arith, pick_weighs p e below)
  step_falls (call p e) below = omega (arith, pick_weighs p e below)
  step_falls (when p e m) below = omega (arith, pick_weighs p e below)
  step_falls (unless p e m) below = omega (arith, pick_weighs p e below)
  step_falls (watch p e) below = omega (arith, pick_weighs p e below)

  order_bounded : {l steps : List Item} {s : List ℕ} {e : End} → LawfulDraft d → Order d l s steps e → ItemsBelow d l → length steps ≤ summed (item_weight w) l
  order_bounded law stop below = omega arith
  order_bounded law (step st rest) below = omega (arith, step_falls st below, order_bounded law rest (step_below d law st below))
  order_bounded law (abort p e) below = omega (arith, pick_weighs p e below)

inputs_total : (w : ℕ → ℕ) (inputs : List ℕ) → summed (item_weight w) (map input inputs) ≡ length inputs
inputs_total w [] = refl
inputs_total w (t ∷ inputs) = omega (arith, inputs_total w inputs)

start_total : (w : ℕ → ℕ) (copies : List Copy) (inputs : List ℕ) → summed (item_weight w) (start copies inputs) ≡ total w copies inputs
start_total w [] inputs = inputs_total w inputs
start_total w (c ∷ copies) inputs = ap (λ n. w c.agent + n) (start_total w copies inputs)

pub weight_bound : WeightBound
weight_bound d w copies inputs s steps e law is below o =
    rw (start_total w copies inputs) at (order_bounded d w is law o (start_below d copies inputs below))
