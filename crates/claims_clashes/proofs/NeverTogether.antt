-- Commands that clash never reach the drives together.
--     instant_apart      at one answered instant
--     never_together     at each of a list of calls: the theorem
use mathlib.Core.Path.{refl, subst}
use mathlib.Core.List.{List, ◌∷◌, Memᴰ}
use Prim.Native.Nat.{ℕ}
use Rattle.laws.proofs.Sets.{Among}
use Rattle.tcc.specs.Store.{closure}
use Rattle.tcc.proofs.Output.{Goes, output_from}
use Rattle.format.specs.Decode.{decode}
use Rattle.lent_maps.specs.Maps.{tokens_in}
use Rattle.claims_demands.specs.Calls.{Answered}
use Rattle.claims_demands.proofs.Accepted.{given}
use Rattle.claims_demands.proofs.Instants.{IsInstant, sent_back}
use Rattle.claims_demands.proofs.Linked.{linked_each}
use Rattle.claims_demands.proofs.Calls.{linked}
use Rattle.claims_clashes.specs.NeverTogether.{NeverTogether}
use Rattle.claims_clashes.proofs.Commands.{held_settled}

module _ {score : List ℕ} {p : Answered} (h : IsInstant score p) (up : ℕ) (others : List ℕ) where
  instant_apart : Memᴰ 0 (closure (decode score) (up ∷ others)) → Among (up ∷ others) (tokens_in p.output) → ⊥
  instant_apart clash sent =
      let first = goes up (Memᴰ.head refl) in
      let settled = held_settled h first.held in
      first.no_clash (settled.clash (settled.follows (up ∷ others) (λ t m. (goes t m).held) 0 clash))
    where
      goes : (t : ℕ) → Memᴰ t (up ∷ others) → Goes (decode score) (given score p.before p.inputs).status (given score p.before p.inputs).store t
      goes t m = output_from (decode score) _ _ t (subst (Memᴰ t) (sent_back h) (sent t m))

pub never_together : NeverTogether
never_together score first last calls answered turn answers p m up others = instant_apart (linked_each (linked turn answers) p m) up others
