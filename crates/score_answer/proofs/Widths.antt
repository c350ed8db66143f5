-- Which numbers may have a large value.
--     not_wide        none below 13
--     wide_layout     each has a layout of its own
use mathlib.Core.Path.{◌≡◌, refl}
use mathlib.Core.Bool.{Bool, true, false, ◌&&◌, ◌||◌}
use Prim.Native.Nat.{ℕ, ◌<◌, ◌≤◌}
use native.Mathlib.Omega.{arith}
use lib.Dec.{eqb, leb}
use borrow.Author.Tests.{leb-true, eqb-true, lt-leb, ne_eqb}
use Rattle.laws.proofs.Booleans.{true_is_false}
use Rattle.score_answer.specs.Answer.{is_wide}

pub not_wide : (n : ℕ) → n < 13 → is_wide n ≡ false
not_wide n h = rw (lt-leb 13 n h, ne_eqb n 18 (λ e. omega arith))

pub wide_layout : (n : ℕ) → is_wide n ≡ true → (13 ≤ n) × (n ≤ 18) × (n ≡ 16 → ⊥)
wide_layout n = go (leb 13 n) refl (leb n 15) refl (eqb n 18) refl
  where
    go : (a : Bool) → leb 13 n ≡ a → (b : Bool) → leb n 15 ≡ b → (c : Bool) → eqb n 18 ≡ c → ((a && b) || c) ≡ true → (13 ≤ n) × (n ≤ 18) × (n ≡ 16 → ⊥)
    go true p true q c r e = (leb-true 13 n p, omega (arith, leb-true n 15 q), λ z. omega (arith, leb-true n 15 q))
    go true p false q true r e = let h : n ≡ 18 = eqb-true n 18 r in (omega arith, omega arith, λ z. omega arith)
    go true p false q false r e = absurd (true_is_false e refl)
    go false p b q true r e = let h : n ≡ 18 = eqb-true n 18 r in (omega arith, omega arith, λ z. omega arith)
    go false p b q false r e = absurd (true_is_false e refl)
