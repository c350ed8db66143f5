-- How many of the numbers below n pass a test.
--     counted          so many
--     counted_more     one number more
--     counted_add      the numbers below m + n are those below m, and n more from m on
--     counted_same     by the tests alone
--     kept_beyond      numbers that do not pass make no difference
use mathlib.Core.Path.{◌≡◌, refl, sym, ap, ap₂, ◌∙◌}
use mathlib.Core.Bool.{Bool, true, false, cond}
use mathlib.Core.List.{[], ◌∷◌, ◌++◌, append-nil}
use Prim.Native.Nat.{ℕ, zero, suc, ◌+◌, ◌<◌, ◌≤◌}
use native.Mathlib.Decide.{le_ind}
use native.Mathlib.Nat.{add-zero, add-suc, add_assoc}
use lib.ListN.{length, length-append}
use Rattle.laws.specs.Sets.{below, keep}
use Rattle.laws.proofs.Sets.{keep_append, keep_agrees, below_lt}

abbrev pub counted : (ℕ → Bool) → ℕ → ℕ
counted f n = length (keep f (below n))

pub counted_more : (f : ℕ → Bool) (n : ℕ) → counted f (suc n) ≡ counted f n + cond (f n) 1 0
counted_more f n =
    ap length (keep_append f (below n) (n ∷ []))
    ∙ length-append (keep f (below n)) (keep f (n ∷ []))
    ∙ ap (λ k. counted f n + k) (last (f n))
  where
    last : (b : Bool) → length (cond b (n ∷ []) []) ≡ cond b 1 0
    last true = refl
    last false = refl

pub counted_add : (f : ℕ → Bool) (m n : ℕ) → counted f (m + n) ≡ counted f m + counted (λ j. f (m + j)) n
counted_add f m zero = ap (counted f) (add-zero m) ∙ sym (add-zero (counted f m))
counted_add f m (suc n) =
    ap (counted f) (add-suc m n)
    ∙ counted_more f (m + n)
    ∙ ap (λ k. k + cond (f (m + n)) 1 0) (counted_add f m n)
    ∙ add_assoc (counted f m) (counted (λ j. f (m + j)) n) (cond (f (m + n)) 1 0)
    ∙ ap (λ k. counted f m + k) (sym (counted_more (λ j. f (m + j)) n))

pub counted_same : (f g : ℕ → Bool) (n : ℕ) → ((j : ℕ) → j < n → f j ≡ g j) → counted f n ≡ counted g n
counted_same f g n same = ap length (keep_agrees f g (below n) (λ j m. same j (below_lt n j m)))

pub kept_beyond : (f : ℕ → Bool) (m n : ℕ) → m ≤ n → ((j : ℕ) → m ≤ j → f j ≡ false) → keep f (below n) ≡ keep f (below m)
kept_beyond f m n h none = le_ind (λ k. keep f (below k) ≡ keep f (below m)) refl
    (λ k le e. keep_append f (below k) (k ∷ []) ∙ ap₂ ◌++◌ e (ap (λ b. cond b (k ∷ []) []) (none k le)) ∙ append-nil (keep f (below m))) n h
