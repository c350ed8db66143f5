-- Laws of lists that rise strictly.
--     rising_tail, rising_above, rising_least     what follows the first rises and is above it; the first is the least
--     rising_cons, rising_append      one number or one list before others that are above it
--     rising_keep, rising_images, below_rising    what a test keeps, the images under a function that keeps the order, the
--                                     numbers below n
--     rising_unique                   two with the same members are equal
use mathlib.Core.Path.{◌≡◌, refl, ap₂}
use mathlib.Core.Bool.{Bool, true, false, cond}
use mathlib.Core.List.Memᴰ
use mathlib.Core.List.{List, [], ◌∷◌, ◌++◌, map, Memᴰ}
use mathlib.Core.Logic.{⊎_elim}
use Prim.Native.Nat.{ℕ, zero, suc, ◌<◌, ◌≤◌}
use native.Mathlib.Omega.{arith}
use Rattle.laws.specs.Sets.{Same, below, keep}
use Rattle.laws.specs.Rising.{Rising, none, one, more}
use Rattle.laws.proofs.Sets.{Within, on_cons, on_keep, below_lt}

pub rising_tail : {k : ℕ} {l : List ℕ} → Rising (k ∷ l) → Rising l
rising_tail one = none
rising_tail (more h r) = r

pub rising_above : {k : ℕ} {l : List ℕ} → Rising (k ∷ l) → Within (λ m. k < m) l
rising_above one = λ m x. absurd (Memᴰ.not-nil x)
rising_above {k} (more h r) = on_cons {P = λ m. k < m} h (λ m x. omega (arith, rising_above r m x))

pub rising_least : {k : ℕ} {l : List ℕ} → Rising (k ∷ l) → Within (λ m. k ≤ m) (k ∷ l)
rising_least {k} r = on_cons {P = λ m. k ≤ m} (omega arith) (λ m x. let h : k < m = rising_above r m x in omega arith)

pub rising_cons : {k : ℕ} (l : List ℕ) → Within (λ m. k < m) l → Rising l → Rising (k ∷ l)
rising_cons [] above r = one
rising_cons (m ∷ l) above r = more (above m (Memᴰ.head refl)) r

pub rising_append : {l : List ℕ} (k : List ℕ) → Rising l → Rising k → Within (λ x. Within (λ y. x < y) k) l → Rising (l ++ k)
rising_append k none r above = r
rising_append k (one {k = x}) r above = rising_cons k (above x (Memᴰ.head refl)) r
rising_append k (more h q) r above = more h (rising_append k q r (λ x m. above x (Memᴰ.tail m)))

pub rising_keep : (f : ℕ → Bool) (l : List ℕ) → Rising l → Rising (keep f l)
rising_keep f [] r = none
rising_keep f (x ∷ l) r = go (f x) (rising_keep f l (rising_tail r))
  where
    go : (b : Bool) → Rising (keep f l) → Rising (cond b (x ∷ keep f l) (keep f l))
    go true kept = rising_cons (keep f l) (on_keep {P = λ z. x < z} f l (λ z m e. rising_above r z m)) kept
    go false kept = kept

pub rising_images : (f : ℕ → ℕ) → ((x y : ℕ) → x < y → f x < f y) → {l : List ℕ} → Rising l → Rising (map f l)
rising_images f up none = none
rising_images f up one = one
rising_images f up (more {k = x} {m = y} h r) = more (up x y h) (rising_images f up r)

pub below_rising : (n : ℕ) → Rising (below n)
below_rising zero = none
below_rising (suc n) = rising_append (n ∷ []) (below_rising n) one (λ x m y e. omega (arith, below_lt n x m, Memᴰ.eq_of_singleton e))

-- a member that is not the first is among the others
later : {x z : ℕ} {l : List ℕ} → Memᴰ z (x ∷ l) → (z ≡ x → ⊥) → Memᴰ z l
later {x} {z} {l} m n = ⊎_elim (λ (e : z ≡ x). absurd (n e)) (λ (k : Memᴰ z l). k) (Memᴰ.cases_cons m)

pub rising_unique : {l k : List ℕ} → Rising l → Rising k → Same l k → l ≡ k
rising_unique {l = []} {k = []} r q s = refl
rising_unique {l = []} {k = y ∷ k} r q s = absurd (Memᴰ.not-nil ((s y).1 (Memᴰ.head refl)))
rising_unique {l = x ∷ l} {k = []} r q s = absurd (Memᴰ.not-nil ((s x).0 (Memᴰ.head refl)))
rising_unique {l = x ∷ l} {k = y ∷ k} r q s = ap₂ ◌∷◌ same (rising_unique (rising_tail r) (rising_tail q) rest)
  where
    same : x ≡ y
    same =
        let a : y ≤ x = rising_least q x ((s x).0 (Memᴰ.head refl)) in
        let b : x ≤ y = rising_least r y ((s y).1 (Memᴰ.head refl)) in
        omega arith

    rest : Same l k
    rest z = (
      λ m. later ((s z).0 (Memᴰ.tail m)) (λ e. let h : x < z = rising_above r z m in let g : x ≡ y = same in omega arith),
      λ m. later ((s z).1 (Memᴰ.tail m)) (λ e. let h : y < z = rising_above q z m in let g : x ≡ y = same in omega arith),
    )
