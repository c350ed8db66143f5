-- Laws of the fields of a word.
--     field_below     a field of k bits is below 2 ^ k
use Prim.Native.Nat.{ℕ, ◌^◌, ◌/◌, ◌<◌}
use native.Mathlib.Nat.{mod-lt}
use lib.Pow.{pow_pos}
use Rattle.words.specs.Word.{field}

pub field_below : (w lowest width : ℕ) → field w lowest width < 2 ^ width
unfolding field
field_below w lowest width = mod-lt (w / 2 ^ lowest) (pow_pos width)
