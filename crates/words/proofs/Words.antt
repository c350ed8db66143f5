-- Laws of the words of a sequence of bytes.
--     words_length     one word for every four bytes
--     words_room       the bytes of word i are within the sequence
--     word_joined      word i is joined from the bytes 4 i to 4 i + 3
use mathlib.Core.Path.{◌≡◌, refl, ap}
use mathlib.Core.List.{List, [], ◌∷◌}
use Prim.Native.Nat.{ℕ, zero, suc, ◌+◌, ◌*◌, ◌/◌, ◌<◌}
use native.Mathlib.Nat.{not-suc-le-zero, le_of_suc-le-suc, add-zero}
use native.Mathlib.Omega.{arith}
use lib.ListN.{length, get_or}
use Rattle.words.specs.Word.{joined, words, word_at}

pub words_length : (s : List ℕ) → length (words s) ≡ length s / 4
unfolding words
words_length [] = refl
words_length (a ∷ []) = refl
words_length (a ∷ b ∷ []) = refl
words_length (a ∷ b ∷ c ∷ []) = refl
words_length (a ∷ b ∷ c ∷ d ∷ s) = let e : length (words s) ≡ length s / 4 = words_length s in omega arith

pub words_room : (s : List ℕ) (i : ℕ) → i < length (words s) → i * 4 + 3 < length s
words_room s i h = omega (arith, words_length s)

get_d_fourth : (a b c d : ℕ) (s : List ℕ) (i k : ℕ) → get_or (a ∷ b ∷ c ∷ d ∷ s) (suc i * 4 + k) 0 ≡ get_or s (i * 4 + k) 0
get_d_fourth a b c d s i k =
    let e : suc i * 4 + k ≡ suc (suc (suc (suc (i * 4 + k)))) = omega arith in
    ap (λ n. get_or (a ∷ b ∷ c ∷ d ∷ s) n 0) e

bytes_joined : (s : List ℕ) (i : ℕ) → i < length (words s) → word_at s i ≡ joined (get_or s (i * 4 + 0) 0) (get_or s (i * 4 + 1) 0) (get_or s (i * 4 + 2) 0) (get_or s (i * 4 + 3) 0)
unfolding words
bytes_joined [] i h = absurd (not-suc-le-zero h)
bytes_joined (a ∷ []) i h = absurd (not-suc-le-zero h)
bytes_joined (a ∷ b ∷ []) i h = absurd (not-suc-le-zero h)
bytes_joined (a ∷ b ∷ c ∷ []) i h = absurd (not-suc-le-zero h)
bytes_joined (a ∷ b ∷ c ∷ d ∷ s) zero h = refl
bytes_joined (a ∷ b ∷ c ∷ d ∷ s) (suc i) h = simp get_d_fourth (bytes_joined s i (le_of_suc-le-suc h))

pub word_joined : (s : List ℕ) (i : ℕ) → i < length (words s) → word_at s i ≡ joined (get_or s (i * 4) 0) (get_or s (i * 4 + 1) 0) (get_or s (i * 4 + 2) 0) (get_or s (i * 4 + 3) 0)
word_joined s i h = rw add-zero at (bytes_joined s i h)
