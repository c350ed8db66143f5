-- What the computed tests say of the members of a list.
--     Within                          every member of a list has a property
--     Among                           every member of a list is in another
--     any_some, some_any              `any` passes if and only if it passes at a member
--     every_each, each_every          `every` passes if and only if it passes at each member
--     has_member, member_has          `has` is membership; `not_has`, where there is none
--     has_same                        sets with the same members pass the same test
--     none_above                      where no member is n or more, each is below n
--     keep_kept                       what passes the test is kept
--     keep_append                     the kept of two lists, one after the other
--     keep_none, keep_few, keep_more      how many are kept: none, no more than there are, no fewer by a wider test
--     below_lt, lt_below              the members of `below n` are the numbers below n
--     below_length, below_at          it has n entries, entry i is i
--     on_cons, on_append, on_map, on_keep     what holds of the parts holds of every member
--     map_member                      the images of the members are members of `map`
--     keep_agrees                     two tests that agree on the members keep the same
--     same_refl, same_sym, same_trans     `Same` is an equivalence; `same_cons`, with one member more
use mathlib.Core.Path.{◌≡◌, refl, sym, ap, ◌∙◌, subst}
use mathlib.Core.Bool.{Bool, true, false, cond, ◌||◌, true-or, or-true}
use mathlib.Core.List.Memᴰ
use mathlib.Core.List.{List, [], ◌∷◌, ◌++◌, map, Memᴰ}
use mathlib.Core.Logic.{⊎_elim, by_cases}
use Prim.Native.Nat.{ℕ, zero, suc, ◌<◌, ◌≤◌}
use native.Mathlib.Nat.{not-suc-le-zero}
use native.Mathlib.Omega.{arith}
use native.Mathlib.Decide.{dec_lt}
use lib.Dec.{eqb, leb}
use lib.ListN.{length, get_or, length-append, get_or-append}
use lib.Seq.{get_or_at}
use borrow.Author.Tests.{eqb-true, eq-eqb, le-leb}
use Rattle.laws.specs.Sets.{Same, below, keep, any, every, has}
use Rattle.laws.proofs.Booleans.{true_is_false, and_both, both_and}

abbrev pub Within : {A : Type 0} → (A → Type 0) → List A → Type 0
Within {A} P l = (x : A) → Memᴰ x l → P x

abbrev pub Among : {A : Type 0} → List A → List A → Type 0
Among l k = Within (λ x. Memᴰ x k) l

module _ {A : Type 0} where
  pub on_cons : {P : A → Type 0} {y : A} {l : List A} → P y → Within P l → Within P (y ∷ l)
  on_cons {P} {y} {l} py rest x m = ⊎_elim (λ (e : x ≡ y). subst P (sym e) py) (λ (m' : Memᴰ x l). rest x m') (Memᴰ.cases_cons m)

  pub on_append : {P : A → Type 0} (l : List A) {k : List A} → Within P l → Within P k → Within P (l ++ k)
  on_append l {k} f g x m = ⊎_elim (λ (m' : Memᴰ x l). f x m') (λ (m' : Memᴰ x k). g x m') (Memᴰ.append_cases l m)

  pub any_some : (f : A → Bool) (l : List A) → any f l ≡ true → (x : A) × Memᴰ x l × (f x ≡ true)
  any_some f [] e = absurd (true_is_false e refl)
  any_some f (y ∷ l) e = go (f y) refl (any f l) refl (any_some f l) e
    where
      go : (b : Bool) → f y ≡ b → (c : Bool) → any f l ≡ c → (any f l ≡ true → (x : A) × Memᴰ x l × (f x ≡ true)) → (b || c) ≡ true → (x : A) × Memᴰ x (y ∷ l) × (f x ≡ true)
      go true p c q rest h = (y, Memᴰ.head refl, p)
      go false p true q rest h = let found = rest q in (found.0, Memᴰ.tail found.1, found.2)
      go false p false q rest h = absurd (true_is_false h refl)

  pub some_any : (f : A → Bool) {x : A} {l : List A} → Memᴰ x l → f x ≡ true → any f l ≡ true
  some_any f {x} (Memᴰ.head {x = y} {xs = l} e) p = let q : f y ≡ true = rw (← e) p in rw q (true-or (any f l))
  some_any f {x} (Memᴰ.tail {x = y} {xs = l} m) p = let q : any f l ≡ true = some_any f m p in rw q (or-true (f y))

  pub every_each : (f : A → Bool) {x : A} {l : List A} → Memᴰ x l → every f l ≡ true → f x ≡ true
  every_each f {x} (Memᴰ.head {x = y} {xs = l} e) h = rw e (and_both (f y) (every f l) h).0
  every_each f {x} (Memᴰ.tail {x = y} {xs = l} m) h = every_each f m (and_both (f y) (every f l) h).1

  pub each_every : (f : A → Bool) (l : List A) → Within (λ x. f x ≡ true) l → every f l ≡ true
  each_every f [] h = refl
  each_every f (y ∷ l) h = both_and (h y (Memᴰ.head refl)) (each_every f l (λ x m. h x (Memᴰ.tail m)))

  pub keep_kept : (f : A → Bool) {x : A} {l : List A} → Memᴰ x l → f x ≡ true → Memᴰ x (keep f l)
  keep_kept f {x} (Memᴰ.head {x = y} {xs = l} e) p = let q : f y ≡ true = rw (← e) p in rw q (Memᴰ.head e)
  keep_kept f {x} (Memᴰ.tail {x = y} {xs = l} m) p = go (f y) (keep_kept f m p)
    where
      go : (b : Bool) → Memᴰ x (keep f l) → Memᴰ x (cond b (y ∷ keep f l) (keep f l))
      go true m' = Memᴰ.tail m'
      go false m' = m'

  pub on_keep : {P : A → Type 0} (f : A → Bool) (l : List A) → Within (λ x. f x ≡ true → P x) l → Within P (keep f l)
  on_keep {P} f [] h x m = elim m [ ]
  on_keep {P} f (y ∷ l) h x m = go (f y) refl (on_keep {P = P} f l (λ z k. h z (Memᴰ.tail k)) x) m
    where
      go : (b : Bool) → f y ≡ b → (Memᴰ x (keep f l) → P x) → Memᴰ x (cond b (y ∷ keep f l) (keep f l)) → P x
      go true p rest k = on_cons {P = λ z. z ≡ x → P x} {l = keep f l} (λ e. h x (Memᴰ.head (sym e)) (rw (← e) p)) (λ z k' e. rest (subst (λ w. Memᴰ w (keep f l)) e k')) x k refl
      go false p rest k = rest k

  pub keep_agrees : (f g : A → Bool) (l : List A) → Within (λ x. f x ≡ g x) l → keep f l ≡ keep g l
  keep_agrees f g [] h = refl
  keep_agrees f g (y ∷ l) h = let p : f y ≡ g y = h y (Memᴰ.head refl) in
      let q : keep f l ≡ keep g l = keep_agrees f g l (λ x m. h x (Memᴰ.tail m)) in rw (p, q)

  pub same_refl : (l : List A) → Same l l
  same_refl l x = (λ m. m, λ m. m)

  pub same_sym : {l k : List A} → Same l k → Same k l
  same_sym h x = ((h x).1, (h x).0)

  pub same_trans : {l k m : List A} → Same l k → Same k m → Same l m
  same_trans h g x = (λ p. (g x).0 ((h x).0 p), λ p. (h x).1 ((g x).1 p))

  pub same_cons : (x : A) {l k : List A} → Same l k → Same (x ∷ l) (x ∷ k)
  same_cons x {l} {k} same y = (
    on_cons {P = λ z. Memᴰ z (x ∷ k)} (Memᴰ.head refl) (λ z m. Memᴰ.tail ((same z).0 m)) y,
    on_cons {P = λ z. Memᴰ z (x ∷ l)} (Memᴰ.head refl) (λ z m. Memᴰ.tail ((same z).1 m)) y,
  )

module _ {A B : Type 0} where
  pub map_member : (f : A → B) {x : A} {l : List A} → Memᴰ x l → Memᴰ (f x) (map f l)
  map_member f (Memᴰ.head e) = Memᴰ.head (ap f e)
  map_member f (Memᴰ.tail m) = Memᴰ.tail (map_member f m)

  pub on_map : (P : B → Type 0) (f : A → B) (l : List A) → Within (λ x. P (f x)) l → Within P (map f l)
  on_map P f [] h y m = elim m [ ]
  on_map P f (x ∷ l) h y m = on_cons (h x (Memᴰ.head refl)) (on_map P f l (λ z k. h z (Memᴰ.tail k))) y m

pub has_member : (n : ℕ) (l : List ℕ) → has n l ≡ true → Memᴰ n l
has_member n l e = let found = any_some (λ m. eqb n m) l e in subst (λ m. Memᴰ m l) (sym (eqb-true n found.0 found.2)) found.1

pub member_has : {n : ℕ} {l : List ℕ} → Memᴰ n l → has n l ≡ true
member_has {n} m = some_any (λ k. eqb n k) m (eq-eqb n n refl)

pub not_has : {n : ℕ} {l : List ℕ} → (Memᴰ n l → ⊥) → has n l ≡ false
not_has {n} {l} h = go (has n l) refl
  where
    go : (b : Bool) → has n l ≡ b → has n l ≡ false
    go true e = absurd (h (has_member n l e))
    go false e = e

pub below_lt : (n : ℕ) → Within (λ i. i < n) (below n)
below_lt zero i m = elim m [ ]
below_lt (suc n) i m = on_append {P = λ k. k < suc n} (below n) (λ k m'. let h : k < n = below_lt n k m' in omega arith) (on_cons {P = λ k. k < suc n} (omega arith) (λ k m'. elim m' [ ])) i m

pub lt_below : (n : ℕ) {i : ℕ} → i < n → Memᴰ i (below n)
lt_below zero h = absurd (omega arith)
lt_below (suc n) {i} h = by_cases (dec_lt i n) (λ l. Memᴰ.append_left (n ∷ []) (lt_below n l)) (λ g. let e : i ≡ n = omega arith in Memᴰ.append_right (below n) (Memᴰ.head e))

pub has_same : {l k : List ℕ} (n : ℕ) → Same l k → has n l ≡ has n k
has_same {l} {k} n h = go (has n l) refl
  where
    go : (b : Bool) → has n l ≡ b → has n l ≡ has n k
    go true e = e ∙ sym (member_has ((h n).0 (has_member n l e)))
    go false e = e ∙ sym (not_has (λ m. true_is_false (member_has ((h n).1 m)) e))

pub none_above : (n : ℕ) (l : List ℕ) → any (λ t. leb n t) l ≡ false → (t : ℕ) → Memᴰ t l → t < n
none_above n l e t m = go (dec_lt t n)
  where
    go : Dec (t < n) → t < n
    go (yes h) = h
    go (no h) =
        let le : n ≤ t = omega arith in
        absurd (true_is_false (some_any (λ x. leb n x) m (le-leb n t le)) e)

module _ {A : Type 0} (f : A → Bool) where
  pub keep_append : (l k : List A) → keep f (l ++ k) ≡ keep f l ++ keep f k
  keep_append [] k = refl
  keep_append (x ∷ l) k = go (f x) (keep_append l k)
    where
      go : (b : Bool) → keep f (l ++ k) ≡ keep f l ++ keep f k → cond b (x ∷ keep f (l ++ k)) (keep f (l ++ k)) ≡ cond b (x ∷ keep f l) (keep f l) ++ keep f k
      go true e = ap (λ t. x ∷ t) e
      go false e = e

  pub keep_none : (l : List A) → Within (λ x. f x ≡ false) l → keep f l ≡ []
  keep_none [] h = refl
  keep_none (x ∷ l) h = let p : f x ≡ false = h x (Memᴰ.head refl) in rw p (keep_none l (λ y m. h y (Memᴰ.tail m)))

  pub keep_few : (l : List A) → length (keep f l) ≤ length l
  keep_few [] = omega arith
  keep_few (x ∷ l) = go (f x) (keep_few l)
    where
      go : (b : Bool) → length (keep f l) ≤ length l → length (cond b (x ∷ keep f l) (keep f l)) ≤ suc (length l)
      go true h = omega arith
      go false h = omega arith

  pub keep_more : (g : A → Bool) (l : List A) → Within (λ x. f x ≡ true → g x ≡ true) l → length (keep f l) ≤ length (keep g l)
  keep_more g [] h = omega arith
  keep_more g (x ∷ l) h = go (f x) (g x) (h x (Memᴰ.head refl)) (keep_more g l (λ y m. h y (Memᴰ.tail m)))
    where
      go : (b c : Bool) → (b ≡ true → c ≡ true) → length (keep f l) ≤ length (keep g l) → length (cond b (x ∷ keep f l) (keep f l)) ≤ length (cond c (x ∷ keep g l) (keep g l))
      go true true e rest = omega arith
      go true false e rest = absurd (true_is_false (e refl) refl)
      go false true e rest = omega arith
      go false false e rest = rest

pub below_length : (n : ℕ) → length (below n) ≡ n
below_length zero = refl
below_length (suc n) = omega (arith, length-append (below n) (n ∷ []), below_length n)

pub below_at : (n i : ℕ) → i < n → get_or (below n) i 0 ≡ i
below_at zero i h = absurd (not-suc-le-zero h)
below_at (suc n) i h = by_cases (dec_lt i n)
    (λ l. get_or-append (below n) (n ∷ []) 0 i (omega (arith, below_length n)) ∙ below_at n i l)
    (λ g. let e : n ≡ i = omega arith in get_or_at (below n) n [] 0 i (below_length n ∙ e) ∙ e)
