-- Rules in their worst order, of any number of tokens.
--     upper              the tokens from a on are in
--     upper_none         none are in
--     links_same         rules whose conclusions are in change nothing
--     links_next         the rules of all tokens bring the next one
--     links_count        one pass for each token that is out, and one more
--     worst_order        256 tokens, 257 passes
use mathlib.Core.Path.{◌≡◌, refl, sym, ap, subst, subst⁻¹, ◌∙◌}
use mathlib.Core.Bool.{Bool, true, false}
use mathlib.Core.List.{List, [], ◌∷◌, map}
use Prim.Native.Nat.{ℕ, zero, suc, ◌+◌, ◌<◌, ◌≤◌}
use native.Mathlib.Decide.{dec_lt, ℕ_discrete}
use native.Mathlib.Omega.{arith}
use borrow.Author.Tests.{eqb-false, le-leb, lt-leb, ne_eqb}
use lib.Dec.{eqb, leb}
use lib.ListN.{length, get_or, set, length-map, length-set}
use lib.Seq.{get_or-set_same, get_or-set_other, ext_get_or}
use Rattle.laws.specs.Sets.{below, has}
use Rattle.laws.proofs.Lists.{map_at, map_entries}
use Rattle.laws.proofs.Sets.{below_length, below_at}
use Rattle.flags.specs.Flags.{flags_of}
use Rattle.instant_store.specs.PassBound.{applied, pass, PassCount, last, more}
use Rattle.instant_store.specs.WorstOrder.{link, links, WorstOrder}
use Rattle.instant_store.proofs.Pass.{applied_brings, applied_keeps, applied_already}
use Rattle.instant_store.proofs.PassBound.{count_one}

module _ (n : ℕ) where
  unfoldable upper : ℕ → List Bool
  upper a = map (λ t. leb a t) (below n)

  upper_long : (a : ℕ) → length (upper a) ≡ n
  unfolding upper
  upper_long a = length-map (below n) (λ t. leb a t) ∙ below_length n

  upper_at : (a t : ℕ) → t < n → get_or (upper a) t false ≡ leb a t
  unfolding upper
  upper_at a t lt = map_at (λ i. leb a i) (below n) t 0 false (omega (arith, below_length n)) ∙ ap (leb a) (below_at n t lt)

  upper_none : upper n ≡ flags_of n []
  unfolding upper flags_of
  upper_none = map_entries (λ t. leb n t) (λ i. has i []) (below n) 0 (λ i lt. lt-leb n (get_or (below n) i 0) (let l : i < n = omega (arith, below_length n) in omega (arith, below_at n i l)))

  upper_set : (a : ℕ) → a < n → set (upper (suc a)) a true ≡ upper a
  upper_set a lt = ext_get_or false (set (upper (suc a)) a true) (upper a) (omega (arith, length-set (upper (suc a)) a true, upper_long (suc a), upper_long a))
      (λ i l. let room : i < n = omega (arith, length-set (upper (suc a)) a true, upper_long (suc a)) in go i room (ℕ_discrete i a))
    where
      same : (i : ℕ) → (i ≡ a → ⊥) → Dec (a < i) → leb (suc a) i ≡ leb a i
      same i d (yes h) = le-leb (suc a) i h ∙ sym (le-leb a i (omega arith))
      same i d (no h) = lt-leb (suc a) i (omega arith) ∙ sym (lt-leb a i (omega arith))

      go : (i : ℕ) → i < n → Dec (i ≡ a) → get_or (set (upper (suc a)) a true) i false ≡ get_or (upper a) i false
      go i room (yes e) = rw e (get_or-set_same (upper (suc a)) a true false (omega (arith, upper_long (suc a))) ∙ sym (upper_at a a lt ∙ le-leb a a (omega arith)))
      go i room (no d) = get_or-set_other (upper (suc a)) a i true false d ∙ upper_at (suc a) i room ∙ same i d (dec_lt a i) ∙ sym (upper_at a i room)

  links_same : (m k a : ℕ) → a ≤ k → k + m ≡ n → pass (links n k m) (upper a) ≡ upper a
  links_same zero k a le e = refl
  links_same (suc m) k a le e =
      ap (pass (links n (suc k) m)) (applied_already (link n k) (upper a) (upper_at a k (omega arith) ∙ le-leb a k le))
      ∙ links_same m (suc k) a (omega arith) (omega arith)

  -- the rule of a token further down waits for its premise
  waits : (k a : ℕ) → k < a → a < n → applied (link n k) (upper (suc a)) ≡ upper (suc a)
  waits k a lt room =
      let plain : (link n k).premises ≡ suc k ∷ suc k ∷ [] = rw (ne_eqb (suc k) n (λ e. omega arith)) in
      applied_keeps (link n k) (upper (suc a)) plain (rw (upper_at (suc a) (suc k) (omega arith), lt-leb (suc a) (suc k) (omega arith)))

  -- that of the next token finds it
  finds : (a : ℕ) → a < n → applied (link n a) (upper (suc a)) ≡ upper a
  finds a room = go (eqb (suc a) n) refl ∙ upper_set a room
    where
      go : (b : Bool) → eqb (suc a) n ≡ b → applied (link n a) (upper (suc a)) ≡ set (upper (suc a)) a true
      go true e = let none : (link n a).premises ≡ [] = rw e in applied_brings (link n a) (upper (suc a)) none refl
      go false e =
          let plain : (link n a).premises ≡ suc a ∷ suc a ∷ [] = rw e in
          let other : suc a ≡ n → ⊥ = eqb-false (suc a) n e in
          applied_brings (link n a) (upper (suc a)) plain (rw (upper_at (suc a) (suc a) (omega arith), le-leb (suc a) (suc a) (omega arith)))

  links_next : (m k a : ℕ) → k ≤ a → a < n → k + m ≡ n → pass (links n k m) (upper (suc a)) ≡ upper a
  links_next zero k a le room e = absurd (omega arith)
  links_next (suc m) k a le room e = go (dec_lt k a) (links_next m (suc k) a)
    where
      go : Dec (k < a) → (suc k ≤ a → a < n → suc k + m ≡ n → pass (links n (suc k) m) (upper (suc a)) ≡ upper a) → pass (links n k (suc m)) (upper (suc a)) ≡ upper a
      go (yes h) further = ap (pass (links n (suc k) m)) (waits k a h room) ∙ further h room (omega arith)
      go (no h) further =
          let here : k ≡ a = omega arith in
          let found : applied (link n k) (upper (suc a)) ≡ upper a = subst⁻¹ (λ i. applied (link n i) (upper (suc a)) ≡ upper a) here (finds a room) in
          ap (pass (links n (suc k) m)) found ∙ links_same m (suc k) a (omega arith) (omega arith)

  links_count : (a : ℕ) → a ≤ n → PassCount (links n 0 n) (upper a) (suc a)
  links_count zero le = last (links_same n 0 0 (omega arith) (omega arith))
  links_count (suc a) le =
      let next : pass (links n 0 n) (upper (suc a)) ≡ upper a = links_next n 0 a (omega arith) (omega arith) (omega arith) in
      more
      (record {
        token = a;
        out = upper_at (suc a) a (omega arith) ∙ lt-leb (suc a) a (omega arith);
        comes_in = ap (λ l. get_or l a false) next ∙ upper_at a a (omega arith) ∙ le-leb a a (omega arith);
      })
      (subst⁻¹ (λ l. PassCount (links n 0 n) l (suc a)) next (links_count a (omega arith)))

  worst_count : PassCount (links n 0 n) (flags_of n []) (suc n)
  worst_count = subst (λ l. PassCount (links n 0 n) l (suc n)) upper_none (links_count n (omega arith))

pub worst_order : WorstOrder
worst_order sc passes e h = count_one sc.rules h (subst⁻¹ (λ l. PassCount l (flags_of 256 []) 257) e (worst_count 256))
