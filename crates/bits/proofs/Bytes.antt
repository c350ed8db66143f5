-- Laws of words as bytes.
--     bytes_of_length    four bytes for every word
--     bytes_of_append    one list of words after the other
--     words_bytes        the words of the bytes of words are those words
--     put_front          a buffer with words written from its front
--     put_front_more     one word more
use mathlib.Core.Path.{◌≡◌, refl, sym, ap, ap₂, ◌∙◌}
use mathlib.Core.List.Memᴰ
use mathlib.Core.List.{List, [], ◌∷◌, ◌++◌}
use Prim.Native.Nat.{ℕ, ◌+◌, ◌*◌, ◌/◌, ◌%◌, ◌^◌, ◌<◌}
use native.Mathlib.Omega.{arith}
use lib.ListN.{length, take, drop, length-append}
use lib.Pow.{shr_mod, shr-shr, split}
use lib.Seq.{take_at, drop-append-add, drop-drop}
use Rattle.laws.proofs.Sets.{Within}
use Rattle.words.specs.Word.{joined, words}
use Rattle.bits.specs.Bits.{bytes_of}

pub bytes_of_length : (ws : List ℕ) → length (bytes_of ws) ≡ 4 * length ws
unfolding bytes_of
bytes_of_length [] = refl
bytes_of_length (w ∷ ws) = let e : length (bytes_of ws) ≡ 4 * length ws = bytes_of_length ws in omega arith

pub bytes_of_append : (ws vs : List ℕ) → bytes_of (ws ++ vs) ≡ bytes_of ws ++ bytes_of vs
unfolding bytes_of
bytes_of_append [] vs = refl
bytes_of_append (w ∷ ws) vs = let e : bytes_of (ws ++ vs) ≡ bytes_of ws ++ bytes_of vs = bytes_of_append ws vs in cc

by_digits : (w x y z a b c : ℕ) → x * 2 ^ 8 + a ≡ w → y * 2 ^ 8 + b ≡ x → z * 2 ^ 8 + c ≡ y → joined a b c z ≡ w
by_digits w x y z a b c p q r = omega arith

rejoined : (w : ℕ) → w < 2 ^ 32 → joined (w % 2 ^ 8) (w / 2 ^ 8 % 2 ^ 8) (w / 2 ^ 16 % 2 ^ 8) (w / 2 ^ 24 % 2 ^ 8) ≡ w
rejoined w h =
    ap (joined (w % 2 ^ 8) (w / 2 ^ 8 % 2 ^ 8) (w / 2 ^ 16 % 2 ^ 8)) (shr_mod {n = w} 8 24 h)
    ∙ by_digits w (w / 2 ^ 8) (w / 2 ^ 16) (w / 2 ^ 24) (w % 2 ^ 8) (w / 2 ^ 8 % 2 ^ 8) (w / 2 ^ 16 % 2 ^ 8) (split w 8)
    (ap (λ x. x * 2 ^ 8 + w / 2 ^ 8 % 2 ^ 8) (sym (shr-shr w 8 8)) ∙ split (w / 2 ^ 8) 8)
    (ap (λ x. x * 2 ^ 8 + w / 2 ^ 16 % 2 ^ 8) (sym (shr-shr w 16 8)) ∙ split (w / 2 ^ 16) 8)

pub words_bytes : (ws : List ℕ) → Within (λ w. w < 2 ^ 32) ws → words (bytes_of ws) ≡ ws
unfolding words bytes_of
words_bytes [] h = refl
words_bytes (w ∷ ws) h = ap₂ ◌∷◌ (rejoined w (h w (Memᴰ.head refl))) (words_bytes ws (λ x m. h x (Memᴰ.tail m)))

abbrev pub put_front : List ℕ → List ℕ → List ℕ
put_front ws s = bytes_of ws ++ drop (4 * length ws) s

pub put_front_more : (ws : List ℕ) (w n : ℕ) (s : List ℕ) → length ws ≡ n → take (4 * n) (put_front ws s) ++ bytes_of (w ∷ []) ++ drop (4 * n + 4) (put_front ws s) ≡ put_front (ws ++ (w ∷ [])) s
put_front_more ws w n s e =
    ap₂ (λ a b. a ++ bytes_of (w ∷ []) ++ b) (take_at (bytes_of ws) (drop (4 * length ws) s) (4 * n) front) later
    ∙ ap₂ ◌++◌ (sym (bytes_of_append ws (w ∷ []))) (ap (λ k. drop k s) more)
  where
    front : length (bytes_of ws) ≡ 4 * n
    front = bytes_of_length ws ∙ ap (λ k. 4 * k) e

    later : drop (4 * n + 4) (put_front ws s) ≡ drop (4 * length ws + 4) s
    later =
        ap (λ k. drop (k + 4) (put_front ws s)) (sym front)
        ∙ drop-append-add (bytes_of ws) (drop (4 * length ws) s) 4
        ∙ drop-drop 4 (4 * length ws) s

    more : 4 * length ws + 4 ≡ 4 * length (ws ++ (w ∷ []))
    more = omega (arith, length-append ws (w ∷ []))
