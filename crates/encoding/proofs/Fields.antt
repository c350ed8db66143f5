-- Laws of the fields of a number, over plain numbers.
--     field_part        of a sum of shifted parts, the field at a part is that part
--     field_join        a field is its lower bits and its higher ones
--     field_low         a number below 2 ^ k is its field of k bits
use mathlib.Core.Path.{◌≡◌, ap, ◌∙◌}
use Prim.Native.Nat.{ℕ, ◌+◌, ◌*◌, ◌/◌, ◌%◌, ◌^◌, ◌<◌}
use native.Mathlib.Nat.{mod-eq_of_lt, div-one}
use native.Mathlib.Omega.{arith}
use lib.Pow.{high, low, pow-add, mod-pow-add, shr-shr}
use Rattle.words.specs.Word.{field}

-- the part stands from a lowest bit on, with bits below it and parts above it
pub field_part : (above below lowest width : ℕ) {w part : ℕ} → w ≡ above * 2 ^ (width + lowest) + part * 2 ^ lowest + below → below < 2 ^ lowest → part < 2 ^ width → field w lowest width ≡ part
unfolding field
field_part above below lowest width {w} {part} is small fits =
    ap (λ x. x / 2 ^ lowest % 2 ^ width) (is ∙ ap (λ x. x + below) shifted)
    ∙ ap (λ x. x % 2 ^ width) (high (above * 2 ^ width + part) lowest small)
    ∙ low above width fits
  where
    shifted : above * 2 ^ (width + lowest) + part * 2 ^ lowest ≡ (above * 2 ^ width + part) * 2 ^ lowest
    shifted = ap (λ x. above * x + part * 2 ^ lowest) (pow-add 2 width lowest) ∙ omega arith

pub field_join : (w lowest few more : ℕ) → field w lowest (more + few) ≡ field w (lowest + few) more * 2 ^ few + field w lowest few
unfolding field
field_join w lowest few more = mod-pow-add (w / 2 ^ lowest) more few ∙ ap (λ x. x % 2 ^ more * 2 ^ few + w / 2 ^ lowest % 2 ^ few) (shr-shr w lowest few)

pub field_low : {w : ℕ} (k : ℕ) → w < 2 ^ k → field w 0 k ≡ w
unfolding field
field_low {w} k h = ap (λ x. x % 2 ^ k) (div-one w) ∙ mod-eq_of_lt h
