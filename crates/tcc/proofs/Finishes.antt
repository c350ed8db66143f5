-- Every order can be carried on to a finished one.
--     finish_within     from a multiset that weighs less than n
--     finishes          the theorem
--     order_append      an order and one that goes on from where it broke off
--     carries_on        for an order that broke off
use mathlib.Core.List.{List, [], ◌∷◌, ◌++◌}
use mathlib.Core.Logic.{◌⊎◌, inl, inr}
use Prim.Native.Nat.{ℕ, zero, suc, ◌<◌}
use native.Mathlib.Omega.{arith}
use Rattle.laws.proofs.Sets.{Within}
use Rattle.tcc.specs.Score.{Score}
use Rattle.tcc.specs.Lawful.{Lawful}
use Rattle.tcc.specs.Weight.{IsWeight, weight}
use Rattle.tcc.specs.Order.{Item, agent, End, aborted, left, Order, stop, step, abort, Finished}
use Rattle.tcc.specs.WeightBound.{ItemsBelow, Finishes, CarriesOn}
use Rattle.tcc.proofs.Multiset.{summed, step_below, order_below}
use Rattle.tcc.proofs.WeightBound.{item_weight, step_falls}
use Rattle.tcc.proofs.Weight.{one_weight}
use Rattle.tcc.proofs.Moves.{Moves, steps, aborts, ItemStuck, moves_or_stuck, stuck_quiet}

abbrev FinishesFrom : Score → List Item → List ℕ → Type 0
FinishesFrom sc l s = (steps : List Item) × (e : End) × Order sc l s steps e × Finished sc e

module _ (sc : Score) (law : Lawful sc) (w : ℕ → ℕ) (is : IsWeight sc w) where
  finish_within : (n : ℕ) (l : List Item) (s : List ℕ) → ItemsBelow sc l → summed (item_weight w) l < n → FinishesFrom sc l s
  finish_within zero l s below h = absurd (omega arith)
  finish_within (suc n) l s below h = go (moves_or_stuck sc s l) (λ k s'. finish_within n k s')
    where
      go : Moves sc l s ⊎ Within (ItemStuck sc s) l → ((k : List Item) (s' : List ℕ) → ItemsBelow sc k → summed (item_weight w) k < n → FinishesFrom sc k s') → FinishesFrom sc l s
      go (inl (steps {x = x} {k = k} {s' = s'} d)) rest =
          let falls = step_falls sc w is d below in
          let (more, e, o, f) = rest k s' (step_below sc law d below) (omega arith) in
          (x ∷ more, e, step d o, f)
      go (inl (aborts {i = i} p e)) rest = (agent i ∷ [], aborted, abort p e, tt)
      go (inr all) rest = ([], left l s, stop, stuck_quiet sc s all)

pub finishes : Finishes
finishes sc l s law below = finish_within sc law (weight sc) (one_weight sc law).0 (suc (summed (item_weight (weight sc)) l)) l s below (omega arith)

order_append : {sc : Score} {l k first more : List Item} {s s' : List ℕ} {e : End} → Order sc l s first (left k s') → Order sc k s' more e → Order sc l s (first ++ more) e
order_append stop o = o
order_append (step d h) o = step d (order_append h o)

pub carries_on : CarriesOn
carries_on sc l k first s s' law below o =
    let (more, e, rest, f) = finishes sc k s' law (order_below sc law o below) in
    (more, e, order_append o rest, f)
