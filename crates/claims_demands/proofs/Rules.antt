-- An answered instant by the operational rules.
--     every, some          every finished order from the agents awake gives the instant's bytes, and there is one
--     by_the_rules         so an instant of the definition is what the rules give
use mathlib.Core.Path.{subst, subst⁻¹}
use mathlib.Core.List.{List, []}
use Prim.Native.Nat.{ℕ}
use Rattle.laws.proofs.Sets.{same_refl}
use Rattle.tcc.specs.Lawful.{AgentsBelow}
use Rattle.tcc.specs.Store.{Closes}
use Rattle.tcc.specs.Order.{Item, End, Order, Finished, start}
use Rattle.tcc.specs.Instant.{answer}
use Rattle.tcc.specs.Confluence.{EndsAs}
use Rattle.tcc.proofs.Multiset.{start_below}
use Rattle.tcc.proofs.Confluence.{confluence}
use Rattle.tcc.proofs.Finishes.{finishes}
use Rattle.format.specs.Decode.{decode}
use Rattle.lent.specs.States.{agents_in, LawfulState}
use Rattle.claims_demands.specs.Calls.{Answered}
use Rattle.claims_demands.specs.Determinacy.{Running}
use Rattle.claims_demands.specs.Operational.{Leaves, ByTheRules}
use Rattle.claims_demands.proofs.Accepted.{lawful, state_lawful}
use Rattle.claims_demands.proofs.Instants.{IsInstant}
use Rattle.claims_demands.proofs.Ends.{leaves, from_aborted}

module _ {score : List ℕ} {p : Answered} (h : IsInstant score p) (runs : Running p.before) where
  every : (s : List ℕ) (steps : List Item) (e : End) → Closes (decode score) [] s → Order (decode score) (start (agents_in p.before) p.inputs) s steps e → Finished (decode score) e → Leaves (decode score) e p
  unfolding answer
  every s steps e c o f = leaves h e (subst⁻¹ (λ st. EndsAs (decode score) e (answer (decode score) st p.inputs)) runs (confluence (decode score) (agents_in p.before) (agents_in p.before) p.inputs s steps e (same_refl (agents_in p.before)) c o f))

  agents_below : AgentsBelow (decode score) (agents_in p.before)
  unfolding LawfulState
  agents_below = subst (LawfulState _) runs (state_lawful score h.accepted p.before h.faultless)

  some : (s : List ℕ) → Closes (decode score) [] s → (steps : List Item) × (e : End) × Order (decode score) (start (agents_in p.before) p.inputs) s steps e × Finished (decode score) e × Leaves (decode score) e p
  some s c =
      let x = finishes (decode score) (start (agents_in p.before) p.inputs) s (lawful score h.accepted) (start_below (decode score) (agents_in p.before) p.inputs agents_below) in
      (x.0, x.1, x.2, x.3, every s x.0 x.1 c x.2 x.3)

pub by_the_rules : {score : List ℕ} {p : Answered} → IsInstant score p → ByTheRules (decode score) p
by_the_rules h = record { every = every h; some = some h; from_aborted = from_aborted h }
