-- Bits of numbers, numbers from bits, and words as bytes.
--     bit_at          whether bit j of a number is set
--     bits_value     the number whose bit j is set where a test holds of j, for the lowest n bits
--     bytes_of        the bytes of words, the low byte of each first
use Rattle.std.specs.Prelude.{Bool, cond, List, [], ◌∷◌, ℕ, zero, suc, ◌+◌, ◌/◌, ◌%◌, ◌^◌, eqb}
use Rattle.words.specs.Word.{field}

abbrev pub bit_at : ℕ → ℕ → Bool
bit_at w j = eqb (field w j 1) 1

unfoldable pub bits_value : (ℕ → Bool) → ℕ → ℕ
bits_value f zero = 0
bits_value f (suc n) = bits_value f n + cond (f n) (2 ^ n) 0

unfoldable pub bytes_of : List ℕ → List ℕ
bytes_of [] = []
bytes_of (w ∷ ws) = w % 2 ^ 8 ∷ w / 2 ^ 8 % 2 ^ 8 ∷ w / 2 ^ 16 % 2 ^ 8 ∷ w / 2 ^ 24 % 2 ^ 8 ∷ bytes_of ws
