-- The set digits of a number are the bits that are set in it.
--     ones_bits        of a number with n bits
use mathlib.Core.Path.{◌≡◌, refl, sym, ap, ap₂, ◌∙◌}
use mathlib.Core.Bool.{cond}
use Prim.Native.Nat.{ℕ, zero, suc, ◌+◌, ◌/◌, ◌%◌, ◌^◌, ◌<◌}
use native.Mathlib.Nat.{add_comm, mod-lt, pow-suc, div-lt_iff_lt-mul}
use native.Mathlib.Omega.{arith}
use lib.Count.{ones, ones_cat}
use lib.Dec.{eqb}
use lib.Pow.{pow_pos, split}
use Rattle.laws.proofs.Counted.{counted, counted_more, counted_same}
use Rattle.words.specs.Word.{field}
use Rattle.bits.specs.Bits.{bit_at}
use Rattle.bits.proofs.Bits.{bit_low}

-- a number of one bit
digit : (a : ℕ) → a < 2 → cond (eqb (a % 2) 1) 1 0 ≡ ones a
unfolding ones
digit zero h = refl
digit (suc zero) h = refl
digit (suc (suc a)) h = absurd (omega arith)

high_bit : (n w : ℕ) → bit_at w n ≡ eqb (w / 2 ^ n % 2) 1
unfolding field
high_bit n w = refl

-- a number of n + 1 bits is its highest bit and the n bits below it
pub ones_bits : (n w : ℕ) → w < 2 ^ n → counted (bit_at w) n ≡ ones w
unfolding ones
ones_bits zero w h = let e : w ≡ 0 = omega arith in ap ones (sym e)
ones_bits (suc n) w h =
    counted_more (bit_at w) n
    ∙ ap₂ ◌+◌ (counted_same (bit_at w) (bit_at (w % 2 ^ n)) n (λ j l. bit_low w l) ∙ ones_bits n (w % 2 ^ n) (mod-lt w (pow_pos n))) (ap (λ b. cond b 1 0) (high_bit n w) ∙ digit (w / 2 ^ n) top)
    ∙ add_comm (ones (w % 2 ^ n)) (ones (w / 2 ^ n))
    ∙ sym (ones_cat n (w / 2 ^ n) (w % 2 ^ n) (mod-lt w (pow_pos n)))
    ∙ ap ones (split w n)
  where
    top : w / 2 ^ n < 2
    top = (div-lt_iff_lt-mul (pow_pos n)).1 (omega (arith, pow-suc 2 n))
