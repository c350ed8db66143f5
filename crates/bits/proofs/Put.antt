-- Laws of words put into bytes.
--     put_none           no words
--     put_more           further words, after those that were put
--     put_length         as many bytes
--     put_then           further words, right after those that were put
--     put_next           one word more, as `bits::put_word` puts it
--     Putting            the words of the first k entries of a list are put
--     putting_none, putting_more, putting_all      none yet, one more, all
use mathlib.Core.Path.{◌≡◌, refl, sym, ap, ap₂, ◌∙◌}
use mathlib.Core.List.{List, [], ◌∷◌, ◌++◌, map, append_assoc, append-nil}
use Prim.Native.Nat.{ℕ, ◌+◌, ◌*◌, ◌<◌, ◌≤◌}
use native.Mathlib.Numerals.{add-one}
use native.Mathlib.Omega.{arith}
use lib.ListN.{length, take, drop, get_or, length-append, length-drop, length-map, take-append-drop}
use lib.Seq.{length-take-le, take-suc, take_all, take_at, drop-append-add, drop-drop}
use Rattle.laws.proofs.Lists.{map_snoc}
use Rattle.bits.specs.Bits.{bytes_of}
use Rattle.bits.proofs.Bytes.{bytes_of_length, bytes_of_append}
use Rattle.bits.specs.Put.{put}

pub put_none : (from : ℕ) (s : List ℕ) → put from [] s ≡ s
unfolding bytes_of
put_none from s =
    ap₂ (λ l k. l ++ drop (4 * k) s) (append-nil (take (4 * from) s)) (let e : from + 0 ≡ from = omega arith in e)
    ∙ take-append-drop (4 * from) s

module _ (from : ℕ) (ws vs s : List ℕ) (i j : ℕ) (here : i ≡ from + length ws) (next : j ≡ i + length vs) (room : 4 * i ≤ length s) where
  pub put_more : take (4 * i) (put from ws s) ++ bytes_of vs ++ drop (4 * j) (put from ws s) ≡ put from (ws ++ vs) s
  put_more =
      ap₂ (λ x y. x ++ bytes_of vs ++ y) (take_at front rest (4 * i) long) later
      ∙ ap (λ x. x ++ drop (4 * (from + length (ws ++ vs))) s) (append_assoc (take (4 * from) s) (bytes_of ws) (bytes_of vs) ∙ ap (λ x. take (4 * from) s ++ x) (sym (bytes_of_append ws vs)))
    where
      front : List ℕ
      front = take (4 * from) s ++ bytes_of ws

      rest : List ℕ
      rest = drop (4 * (from + length ws)) s

      long : length front ≡ 4 * i
      long = omega (arith, length-append (take (4 * from) s) (bytes_of ws), length-take-le (4 * from) s (omega arith), bytes_of_length ws)

      later : drop (4 * j) (front ++ rest) ≡ drop (4 * (from + length (ws ++ vs))) s
      later =
          ap (λ k. drop k (front ++ rest)) (let e : 4 * j ≡ length front + 4 * length vs = omega (arith, long) in e)
          ∙ drop-append-add front rest (4 * length vs)
          ∙ drop-drop (4 * length vs) (4 * (from + length ws)) s
          ∙ ap (λ k. drop k s) (let e : 4 * (from + length ws) + 4 * length vs ≡ 4 * (from + length (ws ++ vs)) = omega (arith, length-append ws vs) in e)

module _ (from : ℕ) (xs bytes : List ℕ) where
  pub put_length : 4 * (from + length xs) ≤ length bytes → length (put from xs bytes) ≡ length bytes
  put_length room =
      omega (
        arith,
        length-append (take (4 * from) bytes ++ bytes_of xs) (drop (4 * (from + length xs)) bytes),
        length-append (take (4 * from) bytes) (bytes_of xs),
        length-take-le (4 * from) bytes (omega arith),
        bytes_of_length xs,
        length-drop (4 * (from + length xs)) bytes,
      )

  pub put_then : (ys : List ℕ) → 4 * (from + length xs) ≤ length bytes → put (from + length xs) ys (put from xs bytes) ≡ put from (xs ++ ys) bytes
  put_then ys room = put_more from xs ys bytes (from + length xs) (from + length xs + length ys) refl refl room

  pub put_next : (w i : ℕ) → i ≡ from + length xs → 4 * i ≤ length bytes →
      take (4 * i) (put from xs bytes) ++ bytes_of (w ∷ []) ++ drop (4 * i + 4) (put from xs bytes) ≡ put from (xs ++ (w ∷ [])) bytes
  put_next w i here room =
      ap (λ k. take (4 * i) (put from xs bytes) ++ bytes_of (w ∷ []) ++ drop k (put from xs bytes)) (let e : 4 * i + 4 ≡ 4 * (i + 1) = omega arith in e)
      ∙ put_more from xs (w ∷ []) bytes i (i + 1) here refl room

module _ {A : Type 0} (f : A → ℕ) (l : List A) (from : ℕ) (bytes : List ℕ) where
  abbrev pub Putting : ℕ → List ℕ → Type 0
  Putting k now = now ≡ put from (map f (take k l)) bytes

  pub putting_none : Putting 0 bytes
  putting_none = sym (put_none from bytes)

  pub putting_more : (d : A) (k i w : ℕ) (now next : List ℕ) → k < length l → i ≡ from + k → 4 * i ≤ length bytes → w ≡ f (get_or l k d) →
      Putting k now → next ≡ take (4 * i) now ++ bytes_of (w ∷ []) ++ drop (4 * i + 4) now → Putting (k + 1) next
  putting_more d k i w now next h here room word before put_word =
      put_word
      ∙ ap₂ (λ v s. take (4 * i) s ++ bytes_of (v ∷ []) ++ drop (4 * i + 4) s) word before
      ∙ put_next from (map f (take k l)) bytes (f (get_or l k d)) i (omega (arith, length-map (take k l) f, length-take-le k l (omega arith))) room
      ∙ ap (λ ws. put from ws bytes) (sym (map_snoc f (take k l) (get_or l k d)) ∙ ap (map f) (sym (ap (λ n. take n l) (add-one k) ∙ take-suc l k d h)))

  pub putting_all : (k : ℕ) (now : List ℕ) → length l ≤ k → Putting k now → now ≡ put from (map f l) bytes
  putting_all k now h e = e ∙ ap (λ x. put from (map f x) bytes) (take_all k l h)
