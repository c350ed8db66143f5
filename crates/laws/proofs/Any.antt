-- Whether one of the numbers below n passes a test.
--     any_more       one number more
--     any_add        the numbers below m + n are those below m, and n more from m on
--     any_same       by the tests alone
--     any_none       where none passes
--     any_keep       of the numbers kept by a second test
--     any_beyond     numbers that do not pass make no difference
use mathlib.Core.Path.{◌≡◌, refl, sym, ap, ap₂, ◌∙◌}
use mathlib.Core.Bool.{Bool, true, false, cond, ◌&&◌, ◌||◌, or-false, or_assoc, and-false}
use mathlib.Core.List.{List, [], ◌∷◌, ◌++◌}
use Prim.Native.Nat.{ℕ, zero, suc, ◌+◌, ◌-◌, ◌<◌, ◌≤◌}
use native.Mathlib.Nat.{add-zero, add-suc}
use native.Mathlib.Omega.{arith}
use Rattle.laws.specs.Sets.{below, keep, any}

module _ {A : Type 0} where
  any_append : (f : A → Bool) (l k : List A) → any f (l ++ k) ≡ (any f l || any f k)
  any_append f [] k = refl
  any_append f (x ∷ l) k = ap (λ b. f x || b) (any_append f l k) ∙ sym (or_assoc (f x) (any f l) (any f k))

  pub any_keep : (g f : A → Bool) (l : List A) → any g (keep f l) ≡ any (λ i. g i && f i) l
  any_keep g f [] = refl
  any_keep g f (x ∷ l) = go (f x) (any_keep g f l)
    where
      go : (b : Bool) → any g (keep f l) ≡ any (λ i. g i && f i) l → any g (cond b (x ∷ keep f l) (keep f l)) ≡ (g x && b || any (λ i. g i && f i) l)
      go true e = ap₂ ◌||◌ (with_true (g x)) e
        where
          with_true : (c : Bool) → c ≡ (c && true)
          with_true true = refl
          with_true false = refl
      go false e = e ∙ ap (λ c. c || any (λ i. g i && f i) l) (sym (and-false (g x)))

pub any_more : (f : ℕ → Bool) (n : ℕ) → any f (below (suc n)) ≡ (any f (below n) || f n)
any_more f n = any_append f (below n) (n ∷ []) ∙ ap (λ b. any f (below n) || b) (or-false (f n))

pub any_add : (f : ℕ → Bool) (m n : ℕ) → any f (below (m + n)) ≡ (any f (below m) || any (λ j. f (m + j)) (below n))
any_add f m zero = ap (λ k. any f (below k)) (add-zero m) ∙ sym (or-false (any f (below m)))
any_add f m (suc n) =
    ap (λ k. any f (below k)) (add-suc m n)
    ∙ any_more f (m + n)
    ∙ ap (λ b. b || f (m + n)) (any_add f m n)
    ∙ or_assoc (any f (below m)) (any (λ j. f (m + j)) (below n)) (f (m + n))
    ∙ ap (λ b. any f (below m) || b) (sym (any_more (λ j. f (m + j)) n))

pub any_same : (f g : ℕ → Bool) (n : ℕ) → ((j : ℕ) → j < n → f j ≡ g j) → any f (below n) ≡ any g (below n)
any_same f g zero h = refl
any_same f g (suc n) h = any_more f n ∙ ap₂ ◌||◌ (any_same f g n (λ j l. h j (omega arith))) (h n (omega arith)) ∙ sym (any_more g n)

pub any_none : (f : ℕ → Bool) (n : ℕ) → ((j : ℕ) → j < n → f j ≡ false) → any f (below n) ≡ false
any_none f zero h = refl
any_none f (suc n) h = any_more f n ∙ ap₂ ◌||◌ (any_none f n (λ j l. h j (omega arith))) (h n (omega arith))

pub any_beyond : (f : ℕ → Bool) (m n : ℕ) → m ≤ n → ((j : ℕ) → m ≤ j → f j ≡ false) → any f (below n) ≡ any f (below m)
any_beyond f m n h none =
    let e : n ≡ m + (n - m) = omega arith in
    ap (λ k. any f (below k)) e
    ∙ any_add f m (n - m)
    ∙ ap (λ b. any f (below m) || b) (any_none (λ j. f (m + j)) (n - m) (λ j l. none (m + j) (omega arith)))
    ∙ or-false (any f (below m))
