-- Answered instants in a row, of a score and of the one with a fact more.
--     Shown              where an instant is not aborted, its store map has the token
--     shown_told         so has the definition's store
--     made_told          then the definition gives the same instant for both scores
--     linked_told        and two rows from one state, on the same inputs, are the same, with the states that they end in
use mathlib.Core.Path.{◌≡◌, refl, sym, ap, ap₂, ◌∙◌}
use mathlib.Core.List.{List, ◌∷◌, map, Memᴰ}
use Prim.Native.Nat.{ℕ, suc}
use native.Mathlib.Omega.{arith}
use Rattle.laws.proofs.Sets.{Within}
use Rattle.tcc.specs.Instant.{output, after}
use Rattle.tcc.proofs.SameAnswer.{SameAnswer}
use Rattle.format.specs.Decode.{decode}
use Rattle.lent.specs.States.{state_of, instant_number}
use Rattle.lent.proofs.Numbered.{numbered_same}
use Rattle.lent.proofs.SameState.{after_same}
use Rattle.lent_maps.specs.Maps.{tokens_in, map_of}
use Rattle.lent_maps.proofs.Round.{map_of_same}
use Rattle.tcc.proofs.Output.{output_same}
use Rattle.claims_demands.specs.Calls.{Answered}
use Rattle.claims_demands.proofs.Accepted.{given}
use Rattle.claims_demands.proofs.Instants.{made_by, IsInstant}
use Rattle.claims_demands.proofs.Linked.{Linked, none, then}
use Rattle.claims_demands.proofs.Ends.{store_back}
use Rattle.claims_facts.proofs.OneMore.{OneMore}
use Rattle.claims_facts.proofs.Told.{Told, answer_told, output_kept}

abbrev pub Shown : ℕ → Answered → Type 0
Shown t p = (p.status ≡ 2 → ⊥) → Memᴰ t (tokens_in p.store)

shown_told : {score : List ℕ} {p : Answered} (t : ℕ) → IsInstant score p → Shown t p → Told t (given score p.before p.inputs)
shown_told t is shown unaborted = (store_back is t).0 (shown (λ e. unaborted (ap (λ q. q.status) (sym is.is) ∙ e)))

module _ {t : ℕ} (score score' : List ℕ) (x : OneMore t (decode score) (decode score')) where
  made_told : (s inputs : List ℕ) → Told t (given score s inputs) → made_by score s inputs ≡ made_by score' s inputs
  made_told s inputs told =
      let a = given score s inputs in
      let b = given score' s inputs in
      let same : SameAnswer a b = answer_told x (state_of s) inputs told in
      let out : output (decode score) a.status a.store ≡ output (decode score') b.status b.store =
      ap (λ n. output (decode score) n a.store) same.status ∙ output_same (decode score) b.status same.store ∙ output_kept x b.status b.store in
      λ i. record {
        before = s;
        inputs = inputs;
        status = same.status i;
        store = map_of_same same.store i;
        output = map_of (out i);
        after = numbered_same (after a) (after b) (suc (instant_number s)) (after_same a b same) i;
      }

  pub linked_told : {s s' last last' : List ℕ} {l k : List Answered} → Linked score s l last → Linked score' s' k last' → s ≡ s' → map (λ p. p.inputs) l ≡ map (λ p. p.inputs) k →
      Within (Shown t) l → (l ≡ k) × (last ≡ last')
  linked_told none none e f h = (refl, e)
  linked_told none (then {p = q} at is y) e f h = absurd (let z : ◌≡◌ {A = ℕ} 0 1 = cc in omega arith)
  linked_told (then {p = p} at is y) none e f h = absurd (let z : ◌≡◌ {A = ℕ} 0 1 = cc in omega arith)
  linked_told (then {p = p} {more = l} at is y) (then {p = q} {more = k} at' is' z) e f h =
      let told = shown_told t is (h p (Memᴰ.head refl)) in
      let inputs : p.inputs ≡ q.inputs = cc in
      let same : p ≡ q = is.is ∙ made_told p.before p.inputs told ∙ ap₂ (made_by score') (at ∙ e ∙ sym at') inputs ∙ sym is'.is in
      let rest = linked_told y z (ap (λ r. r.after) same) (cc) (λ r m. h r (Memᴰ.tail m)) in
      (ap₂ ◌∷◌ same rest.0, rest.1)
