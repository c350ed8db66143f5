-- Laws of numbers made of bits.
--     bits_value_below    n bits make a number below 2 ^ n
--     bits_value_same     by the tests alone
--     bits_value_none     no bit, no number
--     bits_value_or       one more bit, set by a shift and an or
--     bits_value_skip, bits_value_beyond   bits that are not set make no difference
--     bits_value_bit      bit j is set where the test holds of j
--     bit_small, bit_none     no bit of a number below 2 ^ j is set from j on; no bit of 0
--     bit_low             bit j of the lowest n bits
--     bit_shifted         bit j from bit b on
--     bits_from           whether a bit from d on is set
use mathlib.Core.Path.{◌≡◌, refl, sym, ap, ap₂, ◌∙◌}
use mathlib.Core.Bool.{Bool, true, false, cond, not, ◌&&◌, ◌||◌, or-false, or-true, and-false}
use mathlib.Core.Logic.{by_cases}
use Prim.Native.Nat.{ℕ, zero, suc, ◌+◌, ◌*◌, ◌-◌, ◌/◌, ◌%◌, ◌^◌, ◌<◌, ◌≤◌}
use native.Mathlib.Decide.{dec_lt, ℕ_discrete, le_ind}
use native.Mathlib.Nat.{add-zero, add_comm, one-mul, zero-mul, mul_assoc, mod-eq_of_lt, pow-suc, div-eq_of_lt, div-eq_of_lt-le, mul-add-div_right, mul-add-mod_self_right, not-suc-le-zero, lt-mul-div-succ, zero-div, lt_of_lt_of_le, le_trans}
use native.Mathlib.Numerals.{add-one}
use native.Mathlib.Omega.{arith}
use lib.Bits.{bit_or, or_shifted_r}
use lib.Dec.{eqb, leb}
use borrow.Author.Tests.{ne_eqb, le-leb, lt-leb}
use lib.Pow.{pow_pos, pow-lt, pow_mono, pow-add, high, split, shr-shr}
use Rattle.laws.specs.Sets.{below, any}
use mir.Val.{bool_byte}
use Rattle.laws.proofs.Any.{any_more, any_none}
use Rattle.words.specs.Word.{field}
use Rattle.bits.specs.Bits.{bit_at, bits_value}

placed : (b : Bool) (n : ℕ) → cond b (2 ^ n) 0 ≡ bool_byte b * 2 ^ n
placed true n = sym (one-mul (2 ^ n))
placed false n = sym (zero-mul (2 ^ n))

placed_below : (b : Bool) (n : ℕ) → cond b (2 ^ n) 0 ≤ 2 ^ n
placed_below true n = omega arith
placed_below false n = omega arith

pub bits_value_below : (f : ℕ → Bool) (n : ℕ) → bits_value f n < 2 ^ n
unfolding bits_value
bits_value_below f zero = omega arith
bits_value_below f (suc n) = omega (arith, bits_value_below f n, placed_below (f n) n, pow-suc 2 n)

pub bits_value_same : (f g : ℕ → Bool) (n : ℕ) → ((j : ℕ) → j < n → f j ≡ g j) → bits_value f n ≡ bits_value g n
unfolding bits_value
bits_value_same f g zero h = refl
bits_value_same f g (suc n) h = ap₂ ◌+◌ (bits_value_same f g n (λ j l. h j (omega arith))) (ap (λ b. cond b (2 ^ n) 0) (h n (omega arith)))

pub bits_value_none : (f : ℕ → Bool) (n : ℕ) → ((j : ℕ) → j < n → f j ≡ false) → bits_value f n ≡ 0
unfolding bits_value
bits_value_none f zero h = refl
bits_value_none f (suc n) h = ap₂ ◌+◌ (bits_value_none f n (λ j l. h j (omega arith))) (ap (λ b. cond b (2 ^ n) 0) (h n (omega arith)))

pub bits_value_or : (f : ℕ → Bool) (n : ℕ) → n < 32 → bit_or (bits_value f n) (bool_byte (f n) * 2 ^ n % 2 ^ 32) ≡ bits_value f (n + 1)
unfolding bits_value
bits_value_or f n h =
    ap (bit_or (bits_value f n)) (mod-eq_of_lt {m = 2 ^ 32} fits)
    ∙ or_shifted_r (bool_byte (f n)) n (bits_value f n) (bits_value_below f n)
    ∙ add_comm (bool_byte (f n) * 2 ^ n) (bits_value f n)
    ∙ ap (λ x. bits_value f n + x) (sym (placed (f n) n))
    ∙ ap (bits_value f) (sym (add-one n))
  where
    fits : bool_byte (f n) * 2 ^ n < 2 ^ 32
    fits = omega (arith, sym (placed (f n) n), placed_below (f n) n, pow-lt h)

pub bits_value_skip : (f : ℕ → Bool) (n : ℕ) → f n ≡ false → bits_value f (n + 1) ≡ bits_value f n
unfolding bits_value
bits_value_skip f n e = ap (bits_value f) (add-one n) ∙ ap (λ b. bits_value f n + cond b (2 ^ n) 0) e ∙ add-zero (bits_value f n)

pub bits_value_beyond : (f : ℕ → Bool) (m n : ℕ) → m ≤ n → ((j : ℕ) → m ≤ j → f j ≡ false) → bits_value f n ≡ bits_value f m
bits_value_beyond f m n h none = le_ind (λ k. bits_value f k ≡ bits_value f m) refl (λ k l e. ap (bits_value f) (sym (add-one k)) ∙ bits_value_skip f k (none k l) ∙ e) n h

pub bit_small : {w : ℕ} (j : ℕ) → w < 2 ^ j → bit_at w j ≡ false
unfolding field
bit_small j h = ap (λ x. eqb (x % 2) 1) (div-eq_of_lt h)

pub bit_none : (j : ℕ) → bit_at 0 j ≡ false
bit_none j = bit_small j (pow_pos j)

bit_top : {w : ℕ} (n : ℕ) → 2 ^ n ≤ w → w < 2 ^ suc n → bit_at w n ≡ true
unfolding field
bit_top {w} n h l = ap (λ x. eqb (x % 2) 1) (div-eq_of_lt-le {k = 1} (2 ^ n) {m = w} (omega arith) (omega (arith, pow-suc 2 n)))

bit_digit : (b : Bool) → eqb (bool_byte b % 2) 1 ≡ b
bit_digit true = refl
bit_digit false = refl

bit_below : (hi m j lo : ℕ) → bit_at (hi * 2 ^ (suc m + j) + lo) j ≡ bit_at lo j
unfolding field
bit_below hi m j lo =
    ap (λ x. eqb (x % 2) 1) (ap (λ x. (x + lo) / 2 ^ j) shifted ∙ mul-add-div_right {m = 2 ^ j} (pow_pos j) (hi * 2 ^ m * 2) lo)
    ∙ ap (λ x. eqb x 1) (mul-add-mod_self_right (hi * 2 ^ m) 2 (lo / 2 ^ j))
  where
    shifted : hi * 2 ^ (suc m + j) ≡ hi * 2 ^ m * 2 * 2 ^ j
    shifted = ap (λ x. hi * x) (pow-add 2 (suc m) j ∙ ap (λ x. x * 2 ^ j) (pow-suc 2 m)) ∙ sym (mul_assoc hi (2 ^ m * 2) (2 ^ j)) ∙ ap (λ x. x * 2 ^ j) (sym (mul_assoc hi (2 ^ m) 2))

pub bit_low : (w : ℕ) {n j : ℕ} → j < n → bit_at w j ≡ bit_at (w % 2 ^ n) j
bit_low w {n} {j} h =
    let e : n ≡ suc (n - j - 1) + j = omega arith in
    ap (λ x. bit_at x j) (sym (split w n)) ∙ ap (λ k. bit_at (w / 2 ^ n * 2 ^ k + w % 2 ^ n) j) e ∙ bit_below (w / 2 ^ n) (n - j - 1) j (w % 2 ^ n)

pub bit_shifted : (w b j : ℕ) → bit_at (w / 2 ^ b) j ≡ bit_at w (b + j)
unfolding field
bit_shifted w b j = ap (λ x. eqb (x % 2) 1) (shr-shr w b j)

bits_split : (f : ℕ → Bool) (n : ℕ) → bits_value f (suc n) ≡ bool_byte (f n) * 2 ^ n + bits_value f n
unfolding bits_value
bits_split f n = ap (λ x. bits_value f n + x) (placed (f n) n) ∙ add_comm (bits_value f n) (bool_byte (f n) * 2 ^ n)

pub bits_value_bit : (f : ℕ → Bool) (n j : ℕ) → j < n → bit_at (bits_value f n) j ≡ f j
unfolding field
bits_value_bit f zero j h = absurd (not-suc-le-zero h)
bits_value_bit f (suc n) j h = ap (λ x. bit_at x j) (bits_split f n) ∙ go (ℕ_discrete j n) (bits_value_bit f n j)
  where
    go : Dec (j ≡ n) → (j < n → bit_at (bits_value f n) j ≡ f j) → bit_at (bool_byte (f n) * 2 ^ n + bits_value f n) j ≡ f j
    go (yes e) deeper =
        ap (bit_at (bool_byte (f n) * 2 ^ n + bits_value f n)) e
        ∙ ap (λ x. eqb (x % 2) 1) (high (bool_byte (f n)) n (bits_value_below f n))
        ∙ bit_digit (f n)
        ∙ ap f (sym e)
    go (no d) deeper =
        let e : n ≡ suc (n - j - 1) + j = omega arith in
        ap (λ k. bit_at (bool_byte (f n) * 2 ^ k + bits_value f n) j) e ∙ bit_below (bool_byte (f n)) (n - j - 1) j (bits_value f n) ∙ deeper (omega arith)

-- the bits from d on
module _ (d w : ℕ) where
  abbrev from : ℕ → Bool
  from j = leb d j && bit_at w j

  low_none : (n : ℕ) → n ≤ d → any from (below n) ≡ false
  low_none n h = any_none from n (λ j l. ap (λ b. b && bit_at w j) (lt-leb d j (omega arith)))

  some_high : 2 ^ d ≤ w → w / 2 ^ d ≡ 0 → ⊥
  some_high h e = omega (arith, lt-mul-div-succ w (pow_pos d), ap (λ x. 2 ^ d * (x + 1)) e)

  pub bits_from : (n : ℕ) → w < 2 ^ n → any from (below n) ≡ not (eqb (w / 2 ^ d) 0)
  bits_from zero h = let z : w ≡ 0 = omega arith in sym (ap (λ x. not (eqb (x / 2 ^ d) 0)) z ∙ ap (λ x. not (eqb x 0)) (zero-div (2 ^ d)))
  bits_from (suc n) h = by_cases (dec_lt n d)
      (λ l. low_none (suc n) l ∙ sym (ap (λ x. not (eqb x 0)) (div-eq_of_lt (lt_of_lt_of_le h (pow_mono l)))))
      (λ g. any_more from n ∙ by_cases (dec_lt w (2 ^ n))
      (λ l. ap₂ (λ a b. a || (leb d n && b)) (bits_from n l) (bit_small n l) ∙ ap (λ b. not (eqb (w / 2 ^ d) 0) || b) (and-false (leb d n)) ∙ or-false (not (eqb (w / 2 ^ d) 0)))
      (λ k. let t : 2 ^ n ≤ w = omega arith in let m : d ≤ n = omega arith in
      ap₂ (λ a b. any from (below n) || (a && b)) (le-leb d n m) (bit_top n t h)
      ∙ or-true (any from (below n))
      ∙ sym (ap not (ne_eqb (w / 2 ^ d) 0 (some_high (le_trans (pow_mono m) t))))))
