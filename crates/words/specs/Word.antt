-- "Words have 32 bits, stored low byte first. Bits 31 to 28 are the kind."
--     joined         the word of four bytes
--     words          the words of a sequence of bytes; a rest of fewer than four bytes is no word
--     word_at        word i, counted from 0
--     field          the bits of a word from a lowest one on, as a number
--     kind           bits 31 to 28
use Rattle.std.specs.Prelude.{List, [], ◌∷◌, ℕ, ◌+◌, ◌*◌, ◌/◌, ◌%◌, ◌^◌, get_or}

abbrev pub joined : ℕ → ℕ → ℕ → ℕ → ℕ
joined a b c d = a + b * 2 ^ 8 + c * 2 ^ 16 + d * 2 ^ 24

unfoldable pub words : List ℕ → List ℕ
words [] = []
words (a ∷ []) = []
words (a ∷ b ∷ []) = []
words (a ∷ b ∷ c ∷ []) = []
words (a ∷ b ∷ c ∷ d ∷ s) = joined a b c d ∷ words s

abbrev pub word_at : List ℕ → ℕ → ℕ
word_at s i = get_or (words s) i 0

unfoldable pub field : ℕ → ℕ → ℕ → ℕ
field w lowest width = w / 2 ^ lowest % 2 ^ width

abbrev pub kind : ℕ → ℕ
kind w = field w 28 4
