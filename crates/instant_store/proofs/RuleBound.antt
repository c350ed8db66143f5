-- Each pass but the last takes up the conclusion of a rule that was out.
--     pass_source        a token that a pass brings is the conclusion of a rule
--     open_fewer         fewer conclusions are out after a pass that adds a token
--     rule_bound         one pass for each rule at most, and one more
use mathlib.Core.Path.{◌≡◌, refl, sym, ap, ◌∙◌}
use mathlib.Core.Bool.{Bool, true, false, not}
use mathlib.Core.List.{List, [], ◌∷◌, Memᴰ}
use mathlib.Core.Logic.{◌⊎◌, inl, inr, ⊎_elim}
use Prim.Native.Nat.{ℕ, ◌+◌, ◌<◌, ◌≤◌}
use native.Mathlib.Omega.{arith}
use borrow.Author.Tests.{not-true}
use lib.ListN.{length, get_or}
use Rattle.laws.specs.Sets.{keep, every}
use Rattle.laws.proofs.Booleans.{true_is_false, either}
use Rattle.laws.proofs.Sets.{Within, keep_few, keep_more}
use Rattle.tcc.specs.Closure.{Rule}
use Rattle.flags.specs.Flags.{set_of}
use Rattle.instant_store.specs.PassBound.{applied, pass, Adds, PassCount, last, more}
use Rattle.instant_store.specs.RuleBound.{RuleBound}
use Rattle.flags.proofs.Flags.{flag_member, member_flag, set_cases}
use Rattle.instant_store.proofs.Pass.{pass_kept}

-- a rule with this conclusion
abbrev Source : List (Rule ℕ) → ℕ → Type 0
Source rules t = (r : Rule ℕ) × Memᴰ r rules × (r.conclusion ≡ t)

pass_source : (rules : List (Rule ℕ)) (store : List Bool) (t : ℕ) → Memᴰ t (set_of (pass rules store)) → Memᴰ t (set_of store) ⊎ Source rules t
pass_source [] store t m = inl m
pass_source (r ∷ rules) store t m = ⊎_elim
    (either (λ l. Memᴰ t (set_of l) → Memᴰ t (set_of store) ⊎ Source (r ∷ rules) t) (every (λ p. get_or store p false) r.premises)
    (λ k. ⊎_elim (λ (e : t ≡ r.conclusion). inr (r, Memᴰ.head refl, sym e)) (λ (k' : Memᴰ t (set_of store)). inl k') (set_cases store r.conclusion k))
    (λ k. inl k))
    (λ (q : Source rules t). inr (q.0, Memᴰ.tail q.1, q.2))
    (pass_source rules (applied r store) t m)

-- fewer members pass a test that rules one out
module _ {A : Type 0} (f g : A → Bool) where
  keep_fewer : {x : A} {l : List A} → Memᴰ x l → Within (λ y. g y ≡ true → f y ≡ true) l → f x ≡ true → g x ≡ false → length (keep g l) < length (keep f l)
  keep_fewer {x} (Memᴰ.head {x = y} {xs = l} e) h p q =
      let p' : f y ≡ true = rw (← e) p in
      let q' : g y ≡ false = rw (← e) q in
      rw (p', q') (omega (arith, keep_more g f l (λ z m. h z (Memᴰ.tail m))))
  keep_fewer {x} (Memᴰ.tail {x = y} {xs = l} m) h p q = go (g y) refl (f y) refl (keep_fewer m (λ z k. h z (Memᴰ.tail k)) p q)
    where
      go : (b : Bool) → g y ≡ b → (c : Bool) → f y ≡ c → length (keep g l) < length (keep f l) → length (keep g (y ∷ l)) < length (keep f (y ∷ l))
      go true eg true ef lt = rw (eg, ef) (omega arith)
      go true eg false ef lt = absurd (true_is_false (h y (Memᴰ.head refl) eg) ef)
      go false eg true ef lt = rw (eg, ef) (omega arith)
      go false eg false ef lt = rw (eg, ef) lt

-- the rules whose conclusions are out
abbrev is_open : List Bool → Rule ℕ → Bool
is_open store r = not (get_or store r.conclusion false)

module _ (rules : List (Rule ℕ)) where
  open_fewer : (store : List Bool) → Adds store (pass rules store) → length (keep (is_open (pass rules store)) rules) < length (keep (is_open store) rules)
  open_fewer store a = ⊎_elim
      (λ (m : Memᴰ a.token (set_of store)). absurd (true_is_false (member_flag store m) a.out))
      (λ (q : Source rules a.token). keep_fewer (is_open store) (is_open (pass rules store)) q.1 (λ r m e. still r e)
      (ap not (ap (λ t. get_or store t false) q.2 ∙ a.out))
      (ap not (ap (λ t. get_or (pass rules store) t false) q.2 ∙ a.comes_in)))
      (pass_source rules store a.token (flag_member (pass rules store) a.comes_in))
    where
      still : (r : Rule ℕ) → is_open (pass rules store) r ≡ true → is_open store r ≡ true
      still r e = go (get_or store r.conclusion false) refl
        where
          go : (b : Bool) → get_or store r.conclusion false ≡ b → is_open store r ≡ true
          go true f = absurd (true_is_false (member_flag (pass rules store) (pass_kept rules store r.conclusion (flag_member store f))) (not-true _ e))
          go false f = ap not f

  count_open : {store : List Bool} {n : ℕ} → PassCount rules store n → n ≤ length (keep (is_open store) rules) + 1
  count_open (last e) = omega arith
  count_open {store} (more a rest) = omega (arith, count_open rest, open_fewer store a)

pub rule_bound : RuleBound
rule_bound sc tokens passes h = omega (arith, count_open sc.rules h, keep_few (is_open tokens) sc.rules)
