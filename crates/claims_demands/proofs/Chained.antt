-- An answered instant after a chain of finished orders.
--     first_below        the agents awake in the first state are the score's
--     chained            what holds, at the state that the definition gives
--     at_instant         what holds, at the answered instant
--     order_finishes     there is a finished order
use mathlib.Core.Path.{subst}
use mathlib.Core.List.{List, ◌∷◌, ◌++◌, map}
use Prim.Native.Nat.{ℕ}
use Rattle.laws.specs.Sets.{Same}
use Rattle.laws.proofs.Sets.{same_refl}
use Rattle.tcc.specs.Lawful.{AgentsBelow}
use Rattle.tcc.specs.Order.{Item, End, Order, Finished, start}
use Rattle.tcc.specs.Weight.{IsWeight, weight}
use Rattle.tcc.specs.Instant.{running, state_after}
use Rattle.tcc.specs.Chain.{Chain, AtInstant as Along}
use Rattle.tcc.proofs.Weight.{one_weight}
use Rattle.tcc.proofs.Chain.{along}
use Rattle.format.specs.Decode.{decode}
use Rattle.lent.specs.States.{agents_in, state_of, LawfulState, SameState}
use Rattle.lent.proofs.SameState.{answer_same}
use Rattle.claims_demands.specs.Calls.{Answered}
use Rattle.claims_demands.specs.Determinacy.{Running, AtInstant}
use Rattle.claims_demands.proofs.Accepted.{lawful, state_lawful}
use Rattle.claims_demands.proofs.Instants.{IsInstant, instant_inside}
use Rattle.claims_demands.proofs.Linked.{Linked, linked_split, linked_first, linked_state}
use Rattle.claims_demands.proofs.Ends.{ends_same, ends_like}

module _ {score first last : List ℕ} (earlier later : List Answered) (p : Answered) (running-first : Running first) (row : Linked score first (earlier ++ p ∷ later) last) where
  is_instant_lem : IsInstant score p
  is_instant_lem = (linked_split earlier later p row).0

  first_below : AgentsBelow (decode score) (agents_in first)
  unfolding LawfulState
  first_below = subst (LawfulState _) running-first (state_lawful score is_instant_lem.accepted first (linked_first earlier later p row))

  module _ {copies awake : List ℕ} (same : Same copies (agents_in first)) (chain : Chain (decode score) copies (map (λ q. q.inputs) earlier) awake) where
    chained : (w : ℕ → ℕ) → IsWeight (decode score) w → Along (decode score) w (state_after (decode score) (running (agents_in first)) (map (λ q. q.inputs) earlier)) awake p.inputs
    chained w is = along (decode score) w (agents_in first) copies awake p.inputs (map (λ q. q.inputs) earlier) (lawful score is_instant_lem.accepted) is first_below same chain

    pub at_instant : (w : ℕ → ℕ) → IsWeight (decode score) w → AtInstant (decode score) w awake p
    at_instant w is =
        let states = subst (λ st. SameState (state_of p.before) (state_after (decode score) st (map (λ q. q.inputs) earlier))) running-first (linked_state (linked_split earlier later p row).1) in
        let answers = answer_same (decode score) (state_of p.before) (state_after (decode score) (running (agents_in first)) (map (λ q. q.inputs) earlier)) states (same_refl p.inputs) in
        record {
          bounded = λ s steps e c o. (chained w is).bounded s steps e o;
          ends = λ s steps e c o f. ends_like is_instant_lem e (ends_same (decode score) e answers (instant_inside is_instant_lem).aborted_whole ((chained w is).ends s steps e c o f));
        }

    pub order_finishes : (s : List ℕ) → (steps : List Item) × (e : End) × Order (decode score) (start awake p.inputs) s steps e × Finished (decode score) e
    order_finishes s = (chained (weight (decode score)) (one_weight (decode score) (lawful score is_instant_lem.accepted)).0).finishes s
