-- From known copies there is a chain of finished orders along every list of instants.
--     chain_exists     the theorem
use mathlib.Core.List.{List, [], ◌∷◌, map}
use Prim.Native.Nat.{ℕ}
use Rattle.tcc.specs.Store.{closure}
use Rattle.tcc.proofs.Store.{closure_exact}
use Rattle.draft_language.specs.Draft.{Draft, whens, LawfulDraft}
use Rattle.draft_language.specs.Order.{Copy, Item, End, aborted, left, Order, Finished, awake_next, start}
use Rattle.draft_language.specs.Chain.{Chain, none, then, aborts}
use Rattle.draft_language.specs.WeightBound.{ItemsBelow, CopiesBelow}
use Rattle.draft_language.proofs.Below.{start_below, order_below, awake_below}
use Rattle.draft_language.proofs.Finishes.{finishes}

pub chain_exists : (d : Draft) → LawfulDraft d → (copies : List Copy) → CopiesBelow d copies → (instants : List (List ℕ)) → (ends : List End) × Chain d copies instants ends
chain_exists d law copies below [] = ([], none)
chain_exists d law copies below (inputs ∷ rest) =
    let (steps, e, o, f) = finishes d (start copies inputs) (closure (whens d) []) law known in
    go steps e o f (λ awake known-awake. chain_exists d law awake known-awake rest)
  where
    known : ItemsBelow d (start copies inputs)
    known = start_below d copies inputs below

    go : (steps : List Item) (e : End) → Order d (start copies inputs) (closure (whens d) []) steps e → Finished d e → ((awake : List Copy) → CopiesBelow d awake → (ends : List End) × Chain d awake rest ends) → (ends : List End) × Chain d copies (inputs ∷ rest) ends
    go steps aborted o f later = (aborted ∷ map (λ instant. aborted) rest, aborts (closure_exact (whens d) []) o)
    go steps (left l s) o quiet later =
        let (ends, chain) = later (awake_next d s l) (awake_below d law s l (order_below d law o known)) in
        (left l s ∷ ends, then (closure_exact (whens d) []) o quiet chain)
