-- Numbers put into a rising list, and where its members stand.
--     insert_rising, insert_member, member_insert, insert_kept      what inserting a number keeps and adds
--     insert_present, insert_longer         a number that is there adds nothing; another makes the list longer by one
--     insert_all_rising, insert_all_member, member_insert_all       the same of several
--     rising_among                          one among the other is no longer
--     index_below, index_at, at_index       where a member stands, and what stands there
--     index_order                           a lower member stands before
use mathlib.Core.Path.{◌≡◌, refl, sym, ap}
use mathlib.Core.Bool.{Bool, false}
use mathlib.Core.List.Memᴰ
use mathlib.Core.List.{List, [], ◌∷◌, Memᴰ}
use mathlib.Core.Logic.{◌⊎◌, inl, inr, ⊎_elim}
use Prim.Native.Nat.{ℕ, zero, suc, ◌<◌, ◌≤◌}
use native.Mathlib.Nat.{not-suc-le-zero, le_of_suc-le-suc}
use native.Mathlib.Omega.{arith}
use borrow.Author.Tests.{ltb-true, ltb-false, eqb-true, eqb-false, lt-ltb, le-ltb, eq-eqb, ne_eqb}
use lib.Dec.{eqb, ltb}
use lib.ListN.{length, get_or}
use Rattle.laws.specs.Sets.{keep}
use Rattle.laws.specs.Rising.{Rising, one, more}
use Rattle.laws.proofs.Booleans.{by_test, either}
use Rattle.laws.proofs.Lists.{entry_member}
use Rattle.laws.proofs.Sets.{Within, Among, on_cons, keep_kept, keep_few}
use Rattle.laws.proofs.Rising.{rising_tail, rising_above, rising_least, rising_cons}
use Rattle.draft_pairs.specs.Pairs.{insert, insert_all, index_of}

-- a member that is not the first is among the others
later : {k m : ℕ} {l : List ℕ} → eqb k m ≡ false → Memᴰ k (m ∷ l) → Memᴰ k l
later {k} {m} {l} n x = ⊎_elim (λ (e : k ≡ m). absurd (eqb-false k m n e)) (λ (y : Memᴰ k l). y) (Memᴰ.cases_cons x)

-- what holds of a number and of the members of a list holds of the members once it is inserted
on_insert : {P : ℕ → Type 0} (k : ℕ) (l : List ℕ) → P k → Within P l → Within P (insert k l)
on_insert {P} k [] here h = on_cons {P = P} here h
on_insert {P} k (m ∷ l) here h = either (Within P) (ltb k m) (on_cons {P = P} here h) (either (Within P) (eqb k m) h
    (on_cons {P = P} (h m (Memᴰ.head refl)) (on_insert {P = P} k l here (λ x y. h x (Memᴰ.tail y)))))

on_insert_all : {P : ℕ → Type 0} (ks l : List ℕ) → Within P ks → Within P l → Within P (insert_all ks l)
on_insert_all [] l f g = g
on_insert_all {P} (k ∷ ks) l f g = on_insert {P = P} k (insert_all ks l) (f k (Memᴰ.head refl)) (on_insert_all {P = P} ks l (λ x y. f x (Memᴰ.tail y)) g)

pub insert_rising : (k : ℕ) (l : List ℕ) → Rising l → Rising (insert k l)
insert_rising k [] r = one
insert_rising k (m ∷ l) r = by_test Rising (ltb k m) (λ e. more (ltb-true k m e) r) (λ e. by_test Rising (eqb k m) (λ d. r)
    (λ d. rising_cons (insert k l) (on_insert {P = λ x. m < x} k l (let h = ltb-false k m e in let n = eqb-false k m d in omega arith) (rising_above r)) (insert_rising k l (rising_tail r))))

pub insert_member : (k : ℕ) (l : List ℕ) {m : ℕ} → Memᴰ m (insert k l) → (m ≡ k) ⊎ Memᴰ m l
insert_member k l {m} x = on_insert {P = λ y. (y ≡ k) ⊎ Memᴰ y l} k l (inl refl) (λ y z. inr z) m x

pub member_insert : (k : ℕ) (l : List ℕ) → Memᴰ k (insert k l)
member_insert k [] = Memᴰ.head refl
member_insert k (m ∷ l) = either (Memᴰ k) (ltb k m) (Memᴰ.head refl)
    (by_test (Memᴰ k) (eqb k m) (λ e. Memᴰ.head (eqb-true k m e)) (λ e. Memᴰ.tail (member_insert k l)))

pub insert_kept : (k : ℕ) (l : List ℕ) → Among l (insert k l)
insert_kept k [] x y = absurd (Memᴰ.not-nil y)
insert_kept k (m ∷ l) x y = either (Memᴰ x) (ltb k m) (Memᴰ.tail y) (either (Memᴰ x) (eqb k m) y
    (on_cons {P = λ z. Memᴰ z (m ∷ insert k l)} (Memᴰ.head refl) (λ z w. Memᴰ.tail (insert_kept k l z w)) x y))

pub insert_present : (k : ℕ) (l : List ℕ) → Rising l → Memᴰ k l → insert k l ≡ l
insert_present k [] r x = absurd (Memᴰ.not-nil x)
insert_present k (m ∷ l) r x = by_test (λ z. z ≡ m ∷ l) (ltb k m) (λ e. absurd (let h = ltb-true k m e in let g = rising_least r k x in omega arith))
    (λ e. by_test (λ z. z ≡ m ∷ l) (eqb k m) (λ d. refl) (λ d. ap (λ z. m ∷ z) (insert_present k l (rising_tail r) (later d x))))

pub insert_longer : (k : ℕ) (l : List ℕ) → (Memᴰ k l → ⊥) → length (insert k l) ≡ suc (length l)
insert_longer k [] h = refl
insert_longer k (m ∷ l) h = either (λ z. length z ≡ suc (suc (length l))) (ltb k m) refl (by_test (λ z. length z ≡ suc (suc (length l))) (eqb k m)
    (λ e. absurd (h (Memᴰ.head (eqb-true k m e)))) (λ e. ap suc (insert_longer k l (λ x. h (Memᴰ.tail x)))))

pub insert_all_rising : (ks l : List ℕ) → Rising l → Rising (insert_all ks l)
insert_all_rising [] l r = r
insert_all_rising (k ∷ ks) l r = insert_rising k (insert_all ks l) (insert_all_rising ks l r)

pub insert_all_member : (ks l : List ℕ) {m : ℕ} → Memᴰ m (insert_all ks l) → Memᴰ m ks ⊎ Memᴰ m l
insert_all_member ks l {m} x = on_insert_all {P = λ y. Memᴰ y ks ⊎ Memᴰ y l} ks l (λ y z. inl z) (λ y z. inr z) m x

pub member_insert_all : (ks l : List ℕ) → Among ks (insert_all ks l) × Among l (insert_all ks l)
member_insert_all [] l = (λ x y. absurd (Memᴰ.not-nil y), λ x y. y)
member_insert_all (k ∷ ks) l =
    let kept = insert_kept k (insert_all ks l) in
    let rest = member_insert_all ks l in (
      on_cons {P = λ x. Memᴰ x (insert_all (k ∷ ks) l)} (member_insert k (insert_all ks l)) (λ x y. kept x (rest.0 x y)),
      λ x y. kept x (rest.1 x y),
    )

-- a test that a member fails keeps fewer
keep_fewer : (f : ℕ → Bool) {x : ℕ} {l : List ℕ} → Memᴰ x l → f x ≡ false → length (keep f l) < length l
keep_fewer f {x} (Memᴰ.head {x = y} {xs = l} e) p = let q : f y ≡ false = rw (← e) p in rw q (omega (arith, keep_few f l))
keep_fewer f {x} (Memᴰ.tail {x = y} {xs = l} m) p =
    let h : length (keep f l) < length l = keep_fewer f m p in
    either (λ k. length k < suc (length l)) (f y) (omega arith) (omega arith)

pub rising_among : (l k : List ℕ) → Rising l → Among l k → length l ≤ length k
rising_among [] k p h = omega arith
rising_among (x ∷ l) k p h =
    let above : List ℕ = keep (λ y. ltb x y) k in
    let rest : length l ≤ length above = rising_among l above (rising_tail p) (λ y m. keep_kept (λ z. ltb x z) (h y (Memᴰ.tail m)) (lt-ltb x y (rising_above p y m))) in
    omega (arith, keep_fewer (λ y. ltb x y) (h x (Memᴰ.head refl)) (le-ltb x x (omega arith)))

pub index_below : (k : ℕ) (l : List ℕ) → Memᴰ k l → index_of k l < length l
index_below k [] x = absurd (Memᴰ.not-nil x)
index_below k (m ∷ l) x = by_test (λ i. i < suc (length l)) (eqb k m) (λ e. omega arith) (λ e. omega (arith, index_below k l (later e x)))

pub index_at : (k : ℕ) (l : List ℕ) → Memᴰ k l → get_or l (index_of k l) 0 ≡ k
index_at k [] x = absurd (Memᴰ.not-nil x)
index_at k (m ∷ l) x = by_test (λ i. get_or (m ∷ l) i 0 ≡ k) (eqb k m) (λ e. sym (eqb-true k m e)) (λ e. index_at k l (later e x))

pub at_index : (l : List ℕ) (i : ℕ) → Rising l → i < length l → index_of (get_or l i 0) l ≡ i
at_index [] i r h = absurd (not-suc-le-zero h)
at_index (m ∷ l) zero r h = rw (eq-eqb m m refl)
at_index (m ∷ l) (suc i) r h =
    let in_tail : i < length l = le_of_suc-le-suc h in
    let above : m < get_or l i 0 = rising_above r (get_or l i 0) (entry_member l i in_tail) in
    rw (ne_eqb (get_or l i 0) m (omega arith)) (ap suc (at_index l i (rising_tail r) in_tail))

pub index_order : (k m : ℕ) (l : List ℕ) → Rising l → Memᴰ k l → Memᴰ m l → k < m → index_of k l < index_of m l
index_order k m [] r x y h = absurd (Memᴰ.not-nil x)
index_order k m (n ∷ l) r x y h =
    let low : n ≤ k = rising_least r k x in
    let d : eqb m n ≡ false = ne_eqb m n (omega arith) in
    rw d (by_test (λ i. i < suc (index_of m l)) (eqb k n) (λ e. omega arith) (λ e. omega (arith, index_order k m l (rising_tail r) (later e x) (later d y) h)))
