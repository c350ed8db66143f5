-- Laws of a set of procedures kept as the bits of a number.
--     in_set_none    nothing is in 0
--     in_set_or      the bitwise or is the union
--     in_set_one     a one shifted left by p is the set of p alone
--     in_set_past    where nothing is left of a number past q bits, no procedure from q on is in the set
--     in_set_some    a set of n bits that is not 0 holds a procedure
use mathlib.Core.Path.{◌≡◌, refl, sym, ap, ◌∙◌}
use mathlib.Core.Bool.{true, false, ◌||◌}
use Prim.Native.Nat.{ℕ, zero, suc, ◌+◌, ◌*◌, ◌-◌, ◌/◌, ◌%◌, ◌^◌, ◌<◌, ◌≤◌}
use native.Mathlib.Decide.{dec_lt, ℕ_discrete}
use native.Mathlib.Nat.{one-mul, mod-lt, mod-eq_of_lt, div-eq_of_lt, pow-suc, mul-mod_left, div-one, zero-div}
use native.Mathlib.Omega.{arith}
use borrow.Author.Tests.{eq-eqb, ne_eqb}
use lib.Bits.{bit_or, or_shr, or_mod}
use lib.Dec.{eqb, lit<}
use lib.Pow.{pow-lt, pow_pos, pow-add, shl-shr, shr-shr}
use Rattle.check_calls.specs.Calls.{in_set}

-- of two binary digits
digit_or : (x y : ℕ) → x < 2 → y < 2 → eqb (bit_or x y) 1 ≡ (eqb x 1 || eqb y 1)
digit_or zero zero h k = refl
digit_or zero (suc zero) h k = refl
digit_or zero (suc (suc y)) h k = absurd (omega arith)
digit_or (suc zero) zero h k = refl
digit_or (suc zero) (suc zero) h k = refl
digit_or (suc zero) (suc (suc y)) h k = absurd (omega arith)
digit_or (suc (suc x)) y h k = absurd (omega arith)

pub in_set_or : (a b q : ℕ) → in_set (bit_or a b) q ≡ (in_set a q || in_set b q)
unfolding in_set
in_set_or a b q =
    ap (λ n. eqb (n % 2) 1) (or_shr a b q)
    ∙ ap (λ n. eqb n 1) (or_mod (a / 2 ^ q) (b / 2 ^ q) 1)
    ∙ digit_or (a / 2 ^ q % 2) (b / 2 ^ q % 2) (mod-lt (a / 2 ^ q) (lit< tt)) (mod-lt (b / 2 ^ q) (lit< tt))

pub in_set_none : (q : ℕ) → in_set 0 q ≡ false
unfolding in_set
in_set_none q = ap (λ n. eqb (n % 2) 1) (div-eq_of_lt (pow_pos q))

-- bit q of 2 ^ p
power_same : (p : ℕ) → 2 ^ p / 2 ^ p % 2 ≡ 1
power_same p = ap (λ n. n % 2) (ap (λ n. n / 2 ^ p) (sym (one-mul (2 ^ p))) ∙ shl-shr 1 p)

power_below : (p q : ℕ) → p < q → 2 ^ p / 2 ^ q % 2 ≡ 0
power_below p q h = ap (λ n. n % 2) (div-eq_of_lt (pow-lt h))

power_above : (p q m : ℕ) → p ≡ suc m + q → 2 ^ p / 2 ^ q % 2 ≡ 0
power_above p q m e =
    ap (λ n. n % 2) (ap (λ n. 2 ^ n / 2 ^ q) e ∙ ap (λ n. n / 2 ^ q) (pow-add 2 (suc m) q) ∙ shl-shr (2 ^ suc m) q)
    ∙ ap (λ n. n % 2) (pow-suc 2 m)
    ∙ mul-mod_left (2 ^ m) 2

power_other : (p q : ℕ) → (p ≡ q → ⊥) → 2 ^ p / 2 ^ q % 2 ≡ 0
power_other p q n = go (dec_lt p q)
  where
    go : Dec (p < q) → 2 ^ p / 2 ^ q % 2 ≡ 0
    go (yes h) = power_below p q h
    go (no h) = power_above p q (p - q - 1) (omega arith)

pub in_set_one : (p q : ℕ) → p < 64 → in_set (1 * 2 ^ p % 2 ^ 64) q ≡ eqb p q
unfolding in_set
in_set_one p q h = ap (λ n. eqb (n / 2 ^ q % 2) 1) (mod-eq_of_lt {m = 2 ^ 64} (rw one-mul (pow-lt h)) ∙ one-mul (2 ^ p)) ∙ go (ℕ_discrete p q)
  where
    go : Dec (p ≡ q) → eqb (2 ^ p / 2 ^ q % 2) 1 ≡ eqb p q
    go (yes e) = ap (λ n. eqb n 1) (ap (λ n. 2 ^ p / 2 ^ n % 2) (sym e) ∙ power_same p) ∙ sym (eq-eqb p q e)
    go (no n) = ap (λ k. eqb k 1) (power_other p q n) ∙ sym (ne_eqb p q n)

pub in_set_past : (x q j : ℕ) → x / 2 ^ q ≡ 0 → q ≤ j → in_set x j ≡ false
unfolding in_set
in_set_past x q j e le =
    let k : q + (j - q) ≡ j = omega arith in
    let z : x / 2 ^ j ≡ 0 = ap (λ n. x / 2 ^ n) (sym k) ∙ sym (shr-shr x q (j - q)) ∙ ap (λ n. n / 2 ^ (j - q)) e ∙ zero-div (2 ^ (j - q)) in
    ap (λ n. eqb (n % 2) 1) z

pub in_set_some : (n x : ℕ) → x < 2 ^ n → (x ≡ 0 → ⊥) → (q : ℕ) × (q < n) × (in_set x q ≡ true)
unfolding in_set
in_set_some zero x small some = absurd (some (omega arith))
in_set_some (suc n) x small some = go (ℕ_discrete (x % 2) 1) (in_set_some n (x / 2))
  where
    go : Dec (x % 2 ≡ 1) → (x / 2 < 2 ^ n → (x / 2 ≡ 0 → ⊥) → (q : ℕ) × (q < n) × (eqb (x / 2 / 2 ^ q % 2) 1 ≡ true)) → (q : ℕ) × (q < suc n) × (eqb (x / 2 ^ q % 2) 1 ≡ true)
    go (yes e) rest = (0, omega arith, ap (λ m. eqb (m % 2) 1) (div-one x) ∙ eq-eqb (x % 2) 1 e)
    go (no d) rest =
        let half : x < 2 ^ n * 2 = rw pow-suc at small in
        let held = rest (omega arith) (λ z. some (omega arith)) in
        (1 + held.0, omega (arith, held.1), ap (λ m. eqb (m % 2) 1) (sym (shr-shr x 1 held.0)) ∙ held.2)
