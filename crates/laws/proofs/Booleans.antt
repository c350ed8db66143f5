-- Laws of tests.
--     true_is_false            no test is both
--     and_both, both_and       a conjunction of tests, taken apart and put together
--     neither                  a disjunction that fails
--     both-ways                two tests that imply each other are equal
--     cond_true, cond_false    what a test chooses
--     either, by_test          what holds of either side of a choice, knowing how the test ended or not, holds of the choice
use mathlib.Core.Path.{◌≡◌, refl, sym, ap, ◌∙◌}
use mathlib.Core.Bool.{Bool, true, false, cond, ◌&&◌, ◌||◌}
use Prim.Native.Nat.{ℕ}
use native.Mathlib.Omega.{arith}

pub true_is_false : {b : Bool} → b ≡ true → b ≡ false → ⊥
true_is_false {b} p q = let z : ◌≡◌ {A = ℕ} 0 1 = cc in omega arith

pub and_both : (a b : Bool) → (a && b) ≡ true → (a ≡ true) × (b ≡ true)
and_both true true e = (refl, refl)
and_both true false e = absurd (true_is_false e refl)
and_both false true e = absurd (true_is_false e refl)
and_both false false e = absurd (true_is_false e refl)

pub both_and : {a b : Bool} → a ≡ true → b ≡ true → (a && b) ≡ true
both_and {a} {b} p q = rw (p, q)

pub neither : (a b : Bool) → (a || b) ≡ false → (a ≡ false) × (b ≡ false)
neither true b e = absurd (true_is_false refl e)
neither false b e = (refl, e)

pub both_ways : {a b : Bool} → (a ≡ true → b ≡ true) → (b ≡ true → a ≡ true) → a ≡ b
both_ways {a} {b} to from = go a b to from
  where
    go : (a b : Bool) → (a ≡ true → b ≡ true) → (b ≡ true → a ≡ true) → a ≡ b
    go true b to from = sym (to refl)
    go false true to from = from refl
    go false false to from = refl

module _ {A : Type 0} where
  pub cond_true : (y : A) {x z : A} {b : Bool} → b ≡ true → z ≡ x → z ≡ cond b x y
  cond_true y {x} e is = is ∙ sym (ap (λ b. cond b x y) e)

  pub cond_false : (x : A) {y z : A} {b : Bool} → b ≡ false → z ≡ y → z ≡ cond b x y
  cond_false x {y} e is = is ∙ sym (ap (λ b. cond b x y) e)

  pub by_test : (P : A → Type 0) (test : Bool) {x y : A} → (test ≡ true → P x) → (test ≡ false → P y) → P (cond test x y)
  by_test P test {x} {y} passes fails = go test refl
    where
      go : (b : Bool) → test ≡ b → P (cond b x y)
      go true e = passes e
      go false e = fails e

  pub either : (P : A → Type 0) (test : Bool) {x y : A} → P x → P y → P (cond test x y)
  either P test p q = by_test P test (λ e. p) (λ e. q)
