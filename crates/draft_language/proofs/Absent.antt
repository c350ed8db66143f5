-- A token that is in no store of the plain score's answers is in no store of the draft's chain.
--     Without          a token is not in the store of an end
--     chain_without    nor of any end of a chain, if it is in no store of the answers along the same instants
use mathlib.Core.Path.{refl, subst}
use mathlib.Core.List.{List, [], Memᴰ}
use Prim.Native.Nat.{ℕ}
use Rattle.laws.specs.Sets.{Same}
use Rattle.laws.proofs.Sets.{Within, on_cons, on_map, same_trans}
use Rattle.tcc.specs.Score.{Score}
use Rattle.tcc.specs.Store.{closure}
use Rattle.tcc.specs.Instant.{running, instant, answer, answers}
use Rattle.tcc.specs.Order as plain
use Rattle.tcc.proofs.Store.{closure_exact}
use Rattle.tcc.proofs.Confluence.{confluence}
use Rattle.tcc.proofs.Chain.{after_running}
use Rattle.draft_language.specs.Draft.{Draft}
use Rattle.draft_language.specs.Order.{Copy, End, aborted, left}
use Rattle.draft_language.specs.Chain.{InputsKnown, Chain, none, then, aborts}
use Rattle.draft_language.proofs.Carries.{Carries, OkEnds, StandingAll, places_of}
use Rattle.draft_language.proofs.Orders.{order_leads}
use Rattle.draft_language.proofs.Ends.{quiet_ends}
use Rattle.draft_language.proofs.Carried.{start_beside}

abbrev pub Without : ℕ → End → Type 0
Without t aborted = Unit {0}
Without t (left l s) = Memᴰ t s → ⊥

module _ {d : Draft} {sc : Score} {Member : ℕ → ℕ → Type 0} {Ok : List ℕ → Type 0} {Standing : ℕ → List ℕ → Type 0} {place : ℕ → List ℕ → ℕ} (carries : Carries d sc Member Ok Standing place) (t : ℕ) where
  pub chain_without : {copies : List Copy} {instants : List (List ℕ)} {ends : List End} → Chain d copies instants ends → (agents : List ℕ) →
      OkEnds d sc Member Ok Standing place ends → InputsKnown d.tokens instants → StandingAll d sc Member Ok Standing place copies →
      Same (places_of place copies) agents → Within (λ a. Memᴰ t a.store → ⊥) (answers sc (running agents) instants) → Within (Without t) ends
  unfolding answers answer
  chain_without none agents ok known stands same never = λ e m. elim m [ ]
  chain_without (then {copies = copies} {inputs = inputs} {s' = s'} {rest = more} {l = l} closes order quiet rest) agents ok known stands same never =
      let ended = quiet_ends carries (order_leads carries order (start_beside carries closes stands (known inputs (Memᴰ.head refl)))) quiet (ok (left l s') (Memᴰ.head refl)) in
      let q = confluence sc agents (places_of place copies) inputs (closure sc []) ended.steps (plain.left ended.items ended.store) same (closure_exact sc []) ended.order ended.quiet in
      on_cons {P = Without t} (λ held. never (instant sc agents inputs) (Memᴰ.head refl) ((q.store t).0 (ended.extends.old t held)))
      (chain_without rest (instant sc agents inputs).awake (λ e m. ok e (Memᴰ.tail m)) (λ x m. known x (Memᴰ.tail m)) ended.stands (same_trans ended.awake q.awake)
      (subst (λ st. Within (λ a. Memᴰ t a.store → ⊥) (answers sc st more)) (after_running (instant sc agents inputs) q.unaborted) (λ a m. never a (Memᴰ.tail m))))
  chain_without (aborts {rest = more} closes order) agents ok known stands same never = on_cons {P = Without t} tt (on_map (Without t) (λ later. aborted) more (λ later m. tt))
