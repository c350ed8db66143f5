-- Answered instants in a row, each from the state that the one before left.
--     Linked             from a state, along instants of the definition, to a state
--     linked_append      two rows, one after the other
--     linked_split       an instant of a row, with the row before it
--     linked_first       a row that has an instant starts at a state without fault
--     linked_each        each instant of a row is one of the definition's
--     linked_state       the last state is the definition's, copies aside
--     instant_unique     an instant is settled by the state before it and by its inputs
--     linked_unique      so is a row by its first state and its inputs, and its last state too
use mathlib.Core.Path.{◌≡◌, refl, sym, ap, ap₂, subst, ◌∙◌}
use mathlib.Core.Bool.{false}
use mathlib.Core.List.{List, [], ◌∷◌, ◌++◌, map}
use Prim.Native.Nat.{ℕ}
use native.Mathlib.Omega.{arith}
use Rattle.laws.proofs.Sets.{Within, on_cons}
use Rattle.tcc.specs.Instant.{after, state_after}
use Rattle.format.specs.Decode.{sizes, decode}
use Rattle.lent.specs.States.{state_fault, state_of, SameState}
use Rattle.lent.proofs.SameState.{state_refl, state_trans, along_same}
use Rattle.claims_demands.specs.Calls.{Answered}
use Rattle.claims_demands.proofs.Accepted.{given}
use Rattle.claims_demands.proofs.Instants.{made_by, IsInstant, after_round}

pub data Linked (score : List ℕ) : List ℕ → List Answered → List ℕ → Type 0 where
  none : {s : List ℕ} → Linked score s [] s
  then : {s last : List ℕ} {p : Answered} {more : List Answered} →
      p.before ≡ s → IsInstant score p → Linked score p.after more last → Linked score s (p ∷ more) last

module _ {score : List ℕ} where
  pub linked_append : {s t u : List ℕ} {l k : List Answered} → Linked score s l t → Linked score t k u → Linked score s (l ++ k) u
  linked_append none y = y
  linked_append (then at is x) y = then at is (linked_append x y)

  pub linked_split : (earlier later : List Answered) (p : Answered) {s last : List ℕ} → Linked score s (earlier ++ p ∷ later) last → IsInstant score p × Linked score s earlier p.before
  linked_split [] later p (then at is x) = (is, subst (λ s. Linked score s [] p.before) at none)
  linked_split (q ∷ earlier) later p (then at is x) = let y = linked_split earlier later p x in (y.0, then at is y.1)

  pub linked_first : (earlier later : List Answered) (p : Answered) {s last : List ℕ} → Linked score s (earlier ++ p ∷ later) last → state_fault (sizes score).agents s ≡ false
  linked_first [] later p (then at is x) = subst (λ s. state_fault (sizes score).agents s ≡ false) at is.faultless
  linked_first (q ∷ earlier) later p (then at is x) = subst (λ s. state_fault (sizes score).agents s ≡ false) at is.faultless

  pub linked_each : {s last : List ℕ} {l : List Answered} → Linked score s l last → Within (IsInstant score) l
  linked_each none p m = elim m [ ]
  linked_each (then at is x) p m = on_cons is (linked_each x) p m

  pub linked_state : {s last : List ℕ} {l : List Answered} → Linked score s l last → SameState (state_of last) (state_after (decode score) (state_of s) (map (λ q. q.inputs) l))
  unfolding state_after
  linked_state (none {s = s}) = state_refl (state_of s)
  linked_state (then {s = s} {last = last} {p = p} {more = more} at is x) =
      let rest = map (λ q. q.inputs) more in
      let sc = decode score in
      state_trans (state_of last) (state_after sc (state_of p.after) rest) (state_after sc (after (given score s p.inputs)) rest) (linked_state x)
      (along_same sc (state_of p.after) (after (given score s p.inputs))
      (subst (λ t. SameState (state_of p.after) (after (given score t p.inputs))) at (after_round is)) rest)

  pub instant_unique : {p q : Answered} → IsInstant score p → IsInstant score q → p.before ≡ q.before → p.inputs ≡ q.inputs → p ≡ q
  instant_unique x y e f = x.is ∙ ap₂ (made_by score) e f ∙ sym y.is

  pub linked_unique : {s t last last' : List ℕ} {l k : List Answered} → Linked score s l last → Linked score t k last' → s ≡ t → map (λ q. q.inputs) l ≡ map (λ q. q.inputs) k → (l ≡ k) × (last ≡ last')
  linked_unique none none e f = (refl, e)
  linked_unique none (then {p = q} at is x) e f = absurd (let z : ◌≡◌ {A = ℕ} 0 1 = cc in omega arith)
  linked_unique (then {p = p} at is x) none e f = absurd (let z : ◌≡◌ {A = ℕ} 0 1 = cc in omega arith)
  linked_unique (then {p = p} {more = l} at is x) (then {p = q} {more = k} at' is' y) e f =
      let same : p ≡ q = instant_unique is is' (at ∙ e ∙ sym at') (cc) in
      let rest = linked_unique x y (ap (λ r. r.after) same) (cc) in
      (ap₂ ◌∷◌ same rest.0, rest.1)
