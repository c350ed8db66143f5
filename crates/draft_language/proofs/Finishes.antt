-- Every order of a draft can be finished.
--     FinishesFrom      from a multiset and a store there is a finished order
--     finish_within     so there is from a multiset that weighs less than n
--     finishes          the theorem
use mathlib.Core.List.{List, [], ◌∷◌}
use mathlib.Core.Logic.{◌⊎◌, inl, inr}
use Prim.Native.Nat.{ℕ, zero, suc, ◌<◌}
use native.Mathlib.Omega.{arith}
use Rattle.laws.proofs.Sets.{Within}
use Rattle.tcc.specs.Weight.{IsWeight, weight}
use Rattle.tcc.proofs.Multiset.{summed}
use Rattle.tcc.proofs.Weight.{one_weight}
use Rattle.draft_language.specs.Draft.{Draft, whens, LawfulDraft}
use Rattle.draft_language.specs.Order.{Item, copy, End, aborted, left, Order, stop, step, abort, Finished}
use Rattle.draft_language.specs.WeightBound.{ItemsBelow, Finishes}
use Rattle.draft_language.proofs.Steps.{Moves, steps, aborts, ItemStuck, moves_or_stuck, stuck_quiet}
use Rattle.draft_language.proofs.Below.{step_below}
use Rattle.draft_language.proofs.WeightBound.{item_weight, step_falls}

abbrev FinishesFrom : Draft → List Item → List ℕ → Type 0
FinishesFrom d l s = (steps : List Item) × (e : End) × Order d l s steps e × Finished d e

module _ (d : Draft) (law : LawfulDraft d) (w : ℕ → ℕ) (is : IsWeight (whens d) w) where
  finish_within : (n : ℕ) (l : List Item) (s : List ℕ) → ItemsBelow d l → summed (item_weight w) l < n → FinishesFrom d l s
  finish_within zero l s below h = absurd (omega arith)
  finish_within (suc n) l s below h = go (moves_or_stuck d s l) (λ k s'. finish_within n k s')
    where
      go : Moves d l s ⊎ Within (ItemStuck d s) l → ((k : List Item) (s' : List ℕ) → ItemsBelow d k → summed (item_weight w) k < n → FinishesFrom d k s') → FinishesFrom d l s
      go (inl (steps {x = x} {k = k} {s' = s'} st)) rest =
          let falls = step_falls d w is st below in
          let (more, e, o, f) = rest k s' (step_below d law st below) (omega arith) in
          (x ∷ more, e, step st o, f)
      go (inl (aborts {i = i} {set = set} p e)) rest = (copy i set ∷ [], aborted, abort p e, tt)
      go (inr all) rest = ([], left l s, stop, stuck_quiet d s all)

pub finishes : Finishes
finishes d l s law below = finish_within d law (weight (whens d)) (one_weight (whens d) law).0 (suc (summed (item_weight (weight (whens d))) l)) l s below (omega arith)
