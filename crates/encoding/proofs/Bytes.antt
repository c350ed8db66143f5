-- Bytes, and the words that they make.
--     small_four        each of the first four of some bytes is one, and so are the others
--     joined_bytes      the bytes of a word that is joined from four are those four
--     words_small       words of bytes have 32 bits
--     bytes_words       the bytes of the words of a whole number of words are those bytes
use mathlib.Core.Path.{◌≡◌, refl}
use mathlib.Core.List.Memᴰ
use mathlib.Core.List.{List, [], ◌∷◌}
use Prim.Native.Nat.{ℕ, ◌/◌, ◌%◌, ◌^◌, ◌<◌}
use native.Mathlib.Omega.{arith}
use lib.ListN.{length}
use Rattle.laws.proofs.Sets.{Within, on_cons}
use Rattle.words.specs.Word.{joined, words}
use Rattle.bits.specs.Bits.{bytes_of}

small_four : (a b c d : ℕ) (s : List ℕ) → Within (λ x. x < 256) (a ∷ b ∷ c ∷ d ∷ s) → (a < 256) × (b < 256) × (c < 256) × (d < 256) × Within (λ x. x < 256) s
small_four a b c d s h = (
  h a (Memᴰ.head refl),
  h b (Memᴰ.tail (Memᴰ.head refl)),
  h c (Memᴰ.tail (Memᴰ.tail (Memᴰ.head refl))),
  h d (Memᴰ.tail (Memᴰ.tail (Memᴰ.tail (Memᴰ.head refl)))),
  λ x m. h x (Memᴰ.tail (Memᴰ.tail (Memᴰ.tail (Memᴰ.tail m)))),
)

joined_bytes : (a b c d : ℕ) → a < 256 → b < 256 → c < 256 → d < 256 → let w = joined a b c d in
    (w % 2 ^ 8 ≡ a) × (w / 2 ^ 8 % 2 ^ 8 ≡ b) × (w / 2 ^ 16 % 2 ^ 8 ≡ c) × (w / 2 ^ 24 % 2 ^ 8 ≡ d)
joined_bytes a b c d i j k l = omega arith

pub words_small : (s : List ℕ) → Within (λ x. x < 256) s → Within (λ w. w < 2 ^ 32) (words s)
unfolding words
words_small [] h = λ w m. elim m [ ]
words_small (a ∷ []) h = λ w m. elim m [ ]
words_small (a ∷ b ∷ []) h = λ w m. elim m [ ]
words_small (a ∷ b ∷ c ∷ []) h = λ w m. elim m [ ]
words_small (a ∷ b ∷ c ∷ d ∷ s) h =
    let f = small_four a b c d s h in
    on_cons {P = λ w. w < 2 ^ 32} (omega arith) (words_small s f.4)

pub bytes_words : (s : List ℕ) → Within (λ x. x < 256) s → length s % 4 ≡ 0 → bytes_of (words s) ≡ s
unfolding words bytes_of
bytes_words [] h whole = refl
bytes_words (a ∷ []) h whole = absurd (omega arith)
bytes_words (a ∷ b ∷ []) h whole = absurd (omega arith)
bytes_words (a ∷ b ∷ c ∷ []) h whole = absurd (omega arith)
bytes_words (a ∷ b ∷ c ∷ d ∷ s) h whole =
    let f = small_four a b c d s h in
    let bytes = joined_bytes a b c d f.0 f.1 f.2 f.3 in
    let rest = bytes_words s f.4 (omega arith) in
    λ i. bytes.0 i ∷ bytes.1 i ∷ bytes.2 i ∷ bytes.3 i ∷ rest i
