-- Laws of the rows of flags, and of their closing step by step.
--     Half, half_none, half_kept, half_joined, half_all     a step through k, done for the rows below p
--     Upto, upto_none, upto_more, upto_closed               rows closed through each k below n: what they mark is linked,
--                                                           and whatever leads on through one of those is marked
use mathlib.Core.Path.{◌≡◌, refl, sym, ap, ap₂, ◌∙◌}
use mathlib.Core.Bool.{Bool, true, false, ◌&&◌, ◌||◌, or-false, or-true}
use mathlib.Core.List.{List, [], ◌++◌}
use mathlib.Core.Logic.{◌⊎◌, inl, inr}
use Prim.Native.Nat.{ℕ, ◌+◌, ◌-◌, ◌<◌, ◌≤◌}
use native.Mathlib.Decide.{ℕ_discrete}
use native.Mathlib.Nat.{not-suc-le-zero}
use native.Mathlib.Omega.{arith}
use lib.ListN.{length, get_or, set, take, drop, get_or-append, length-append, length-drop}
use Rattle.std.proofs.lemmas.List.{get_or-append_right, get_or-take, get_or-drop}
use lib.Seq.{get_or-set_other}
use Rattle.laws.proofs.Lists.{filled_more}
use Rattle.check_calls.specs.Calls.{called, Stepped, Linked, one, more, Closed}

-- what row p marks after the step through k
abbrev stepped : ℕ → List (List Bool) → ℕ → ℕ → Bool
stepped k m p q = called m p q || (called m p k && called m k q)

pub record Half (k p : ℕ) (before now : List (List Bool)) : Type 0 where
  pub done : (p' : ℕ) → p' < p → (q : ℕ) → q < 64 → get_or (get_or now p' []) q false ≡ stepped k before p' q
  pub left : (p' : ℕ) → p ≤ p' → get_or now p' [] ≡ get_or before p' []

pub half_none : (k : ℕ) (m : List (List Bool)) → Half k 0 m m
half_none k m = record { done = λ p h. absurd (not-suc-le-zero h); left = λ p h. refl }

-- the rows past the n that the step went over stand as they were
pub half_all : (n k : ℕ) (m r : List (List Bool)) → k < n → n ≤ length m → length r ≡ n →
    Half k n (take n m) r → Stepped n k m (r ++ drop n m)
half_all n k m r within few long h =
    record {
      long = omega (arith, length-append r (drop n m), length-drop n m);
      exact = λ p q lt le.
          ap (λ row. get_or row q false) (get_or-append r (drop n m) [] p (omega arith))
          ∙ h.done p lt q le
          ∙ ap₂ ◌||◌ (front p q lt) (ap₂ ◌&&◌ (front p k lt) (front k q within));
      rest = λ p le. get_or-append_right r (drop n m) n p [] long le ∙ get_or-drop n m (p - n) [] ∙ ap (λ i. get_or m i []) (omega arith);
    }
  where
    front : (p q : ℕ) → p < n → called (take n m) p q ≡ called m p q
    front p q lt = ap (λ row. get_or row q false) (get_or-take n m p [] lt)

or_none : (a b c : Bool) → b ≡ false → a ≡ (a || (b && c))
or_none a b c e = rw e (sym (or-false a))

and_first : (b c : Bool) → b ≡ true → c ≡ (b && c)
and_first b c e = rw e

module _ (k p : ℕ) (m r : List (List Bool)) (h : Half k p m r) where
  row_left : (q : ℕ) → called r p q ≡ called m p q
  row_left q = ap (λ row. get_or row q false) (h.left p (omega arith))

  pub half_kept : called r p k ≡ false → Half k (p + 1) m r
  half_kept e =
      record {
        done = λ p' lt q le. go p' lt q le (ℕ_discrete p' p);
        left = λ p' le. h.left p' (omega arith);
      }
    where
      go : (p' : ℕ) → p' < p + 1 → (q : ℕ) → q < 64 → Dec (p' ≡ p) → called r p' q ≡ stepped k m p' q
      go p' lt q le (no n) = h.done p' (omega arith) q le
      go p' lt q le (yes i) =
          ap (λ j. called r j q) i ∙ row_left q ∙ or_none (called m p q) (called m p k) (called m k q) (sym (row_left k) ∙ e)
          ∙ ap (λ j. stepped k m j q) (sym i)

  pub half_joined : called r p k ≡ true → p < length r → (row : List Bool) →
      ((q : ℕ) → q < 64 → get_or row q false ≡ (called r p q || called m k q)) → Half k (p + 1) m (set r p row)
  half_joined e within row joins =
      record {
        done = filled_more (λ p' v. (q : ℕ) → q < 64 → get_or v q false ≡ stepped k m p' q) r p row [] within h.done here;
        left = λ p' le. get_or-set_other r p p' row [] (λ i. omega arith) ∙ h.left p' (omega arith);
      }
    where
      here : (q : ℕ) → q < 64 → get_or row q false ≡ stepped k m p q
      here q lt =
          joins q lt
          ∙ ap₂ ◌||◌ (row_left q) (and_first (called m p k) (called m k q) (sym (row_left k) ∙ e))

pub record Upto (n k : ℕ) (before now : List (List Bool)) : Type 0 where
  pub sound : (p q : ℕ) → p < n → q < 64 → called now p q ≡ true → Linked n before p q
  pub kept : (p q : ℕ) → p < n → q < 64 → called before p q ≡ true → called now p q ≡ true
  pub through : (p j q : ℕ) → p < n → j < k → q < 64 → called now p j ≡ true → called now j q ≡ true → called now p q ≡ true
  pub rest : (p : ℕ) → n ≤ p → get_or now p [] ≡ get_or before p []

linked_on : {n : ℕ} {m : List (List Bool)} {p k q : ℕ} → Linked n m p k → k < n → Linked n m k q → Linked n m p q
linked_on (one e) lt next = more lt e next
linked_on (more l e rest) lt next = more l e (linked_on rest lt next)

-- of a mark after a step: it was there, or leads through k
either : (a b c d : Bool) → d ≡ (a || (b && c)) → d ≡ true → (a ≡ true) ⊎ ((b ≡ true) × (c ≡ true))
either true b c d e t = inl refl
either false true true d e t = inr (refl, refl)
either false true false d e t = inl (sym e ∙ t)
either false false c d e t = inl (sym e ∙ t)

first_of : (a b d : Bool) → d ≡ (a || b) → a ≡ true → d ≡ true
first_of a b d e t = e ∙ rw t

both_of : (a b c d : Bool) → d ≡ (a || (b && c)) → b ≡ true → c ≡ true → d ≡ true
both_of a b c d e t u = e ∙ rw (t, u) (or-true a)

pub upto_none : (n : ℕ) (m : List (List Bool)) → Upto n 0 m m
upto_none n m =
    record {
      sound = λ p q lp lq e. one e;
      kept = λ p q lp lq e. e;
      through = λ p j q lp lj lq. absurd (not-suc-le-zero lj);
      rest = λ p le. refl;
    }

module _ (n k : ℕ) (m r r' : List (List Bool)) (few : n ≤ 64) (within : k < n) (upto : Upto n k m r) (step : Stepped n k r r') where
  low : k < 64
  low = omega arith

  was : (p q : ℕ) → p < n → q < 64 → called r' p q ≡ true → (called r p q ≡ true) ⊎ ((called r p k ≡ true) × (called r k q ≡ true))
  was p q lp lq t = either (called r p q) (called r p k) (called r k q) (called r' p q) (step.exact p q lp lq) t

  stays : (p q : ℕ) → p < n → q < 64 → called r p q ≡ true → called r' p q ≡ true
  stays p q lp lq t = first_of (called r p q) (called r p k && called r k q) (called r' p q) (step.exact p q lp lq) t

  leads : (p q : ℕ) → p < n → q < 64 → called r p k ≡ true → called r k q ≡ true → called r' p q ≡ true
  leads p q lp lq t u = both_of (called r p q) (called r p k) (called r k q) (called r' p q) (step.exact p q lp lq) t u

  to_k : (p : ℕ) → p < n → called r' p k ≡ true → called r p k ≡ true
  to_k p lp t = elim (was p k lp low t) [ inl e ↦ e | inr b ↦ b.0 ]

  from_k : (q : ℕ) → q < 64 → called r' k q ≡ true → called r k q ≡ true
  from_k q lq t = elim (was k q within lq t) [ inl e ↦ e | inr b ↦ b.1 ]

  linked : (p q : ℕ) → p < n → q < 64 → (called r p q ≡ true) ⊎ ((called r p k ≡ true) × (called r k q ≡ true)) → Linked n m p q
  linked p q lp lq (inl e) = upto.sound p q lp lq e
  linked p q lp lq (inr b) = linked_on (upto.sound p k lp low b.0) within (upto.sound k q within lq b.1)

  passes : (p j q : ℕ) → p < n → j < k → q < 64 →
      (called r p j ≡ true) ⊎ ((called r p k ≡ true) × (called r k j ≡ true)) →
      (called r j q ≡ true) ⊎ ((called r j k ≡ true) × (called r k q ≡ true)) → called r' p q ≡ true
  passes p j q lp lj lq (inl a) (inl b) = stays p q lp lq (upto.through p j q lp lj lq a b)
  passes p j q lp lj lq (inl a) (inr b) = leads p q lp lq (upto.through p j k lp lj low a b.0) b.1
  passes p j q lp lj lq (inr a) (inl b) = leads p q lp lq a.0 (upto.through k j q within lj lq a.1 b)
  passes p j q lp lj lq (inr a) (inr b) = leads p q lp lq a.0 b.1

  pass : (p j q : ℕ) → p < n → j < k + 1 → q < 64 → called r' p j ≡ true → called r' j q ≡ true → Dec (j ≡ k) → called r' p q ≡ true
  pass p j q lp lj lq a b (yes e) =
      leads p q lp lq (to_k p lp (ap (called r' p) (sym e) ∙ a)) (from_k q lq (ap (λ i. called r' i q) (sym e) ∙ b))
  pass p j q lp lj lq a b (no d) =
      let l : j < k = omega arith in
      passes p j q lp l lq (was p j lp (omega arith) a) (was j q (omega arith) lq b)

  pub upto_more : Upto n (k + 1) m r'
  upto_more =
      record {
        sound = λ p q lp lq t. linked p q lp lq (was p q lp lq t);
        kept = λ p q lp lq t. stays p q lp lq (upto.kept p q lp lq t);
        through = λ p j q lp lj lq a b. pass p j q lp lj lq a b (ℕ_discrete j k);
        rest = λ p le. step.rest p le ∙ upto.rest p le;
      }

module _ (n : ℕ) (m r : List (List Bool)) (few : n ≤ 64) (u : Upto n n m r) where
  marked : (p q : ℕ) → p < n → q < 64 → Linked n m p q → called r p q ≡ true
  marked p q lp lq (one e) = u.kept p q lp lq e
  marked p q lp lq (more {q = j} lj e rest) = u.through p j q lp lj lq (u.kept p j lp (omega arith) e) (marked j q lj lq rest)

  pub upto_closed : length r ≡ length m → Closed n m r
  upto_closed long = record { long = long; exact = λ p q lp lq. (u.sound p q lp lq, marked p q lp lq); rest = u.rest }
