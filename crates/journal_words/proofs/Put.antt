-- Laws of words put into a journal.
--     listed         the words of a kind for the tokens flagged below t
--     listed_more, listed_same       put token by token
--     listed_all     put for all tokens
--     instant_length     an instant's words: one, and one for each token
--     instant_put        put in three parts, they stand at the front
use mathlib.Core.Path.{◌≡◌, refl, sym, ap, ap₂, ◌∙◌}
use mathlib.Core.Bool.{Bool, true, false}
use mathlib.Core.List.{List, [], ◌∷◌, ◌++◌, map, append-nil}
use Prim.Native.Nat.{ℕ, ◌+◌, ◌*◌, ◌^◌, ◌≤◌}
use native.Mathlib.Omega.{arith}
use lib.ListN.{length, take, drop, length-append, length-map, get_or}
use Rattle.laws.proofs.Lists.{map_snoc}
use Rattle.bits.specs.Bits.{bytes_of}
use Rattle.bits.specs.Put.{put}
use Rattle.bits.proofs.Put.{put_more}
use Rattle.journal_words.specs.History.{instant_word, input_word, output_word, instant_words}
use Rattle.journal_words.proofs.Kept.{kept, kept_step}

-- the words of a kind for the tokens flagged below t
abbrev pub listed : ℕ → List Bool → ℕ → List ℕ
listed kind flags t = map (λ u. kind * 2 ^ 28 + u) (kept flags t)

module _ (from kind : ℕ) (flags : List Bool) (t : ℕ) (s : List ℕ) where
  pub listed_more : get_or flags t false ≡ true → (at w : ℕ) (now next : List ℕ) → at ≡ from + length (kept flags t) → w ≡ kind * 2 ^ 28 + t → 4 * at ≤ length s
      → now ≡ put from (listed kind flags t) s → next ≡ take (4 * at) now ++ bytes_of (w ∷ []) ++ drop (4 * at + 4) now → next ≡ put from (listed kind flags (t + 1)) s
  listed_more set at w now next here word room before put_word =
      put_word
      ∙ ap₂ (λ x l. take (4 * at) l ++ bytes_of (x ∷ []) ++ drop (4 * at + 4) l) word before
      ∙ ap (λ k. take (4 * at) old ++ bytes_of ((kind * 2 ^ 28 + t) ∷ []) ++ drop k old) (let e : 4 * at + 4 ≡ 4 * (at + 1) = omega arith in e)
      ∙ put_more from (listed kind flags t) ((kind * 2 ^ 28 + t) ∷ []) s at (at + 1) (omega (arith, length-map (kept flags t) (λ u. kind * 2 ^ 28 + u))) refl room
      ∙ ap (λ l. put from l s) (sym (ap (map (λ u. kind * 2 ^ 28 + u)) (kept_step flags t true set) ∙ map_snoc (λ u. kind * 2 ^ 28 + u) (kept flags t) t))
    where
      old : List ℕ
      old = put from (listed kind flags t) s

  pub listed_same : get_or flags t false ≡ false → put from (listed kind flags t) s ≡ put from (listed kind flags (t + 1)) s
  listed_same clear = ap (λ l. put from (map (λ u. kind * 2 ^ 28 + u) l) s) (sym (kept_step flags t false clear ∙ append-nil (kept flags t)))

  pub listed_all : (l : List ℕ) → kept flags t ≡ l → put from (listed kind flags t) s ≡ take (4 * from) s ++ bytes_of (map (λ u. kind * 2 ^ 28 + u) l) ++ drop (4 * (from + length l)) s
  listed_all l e = rw (e, length-map l (λ u. kind * 2 ^ 28 + u))

pub instant_length : (status : ℕ) (inputs outputs : List ℕ) → length (instant_words status inputs outputs) ≡ 1 + length inputs + length outputs
unfolding instant_words
instant_length status inputs outputs = omega (arith, length-append (map input_word inputs) (map output_word outputs), length-map inputs input_word, length-map outputs output_word)

module _ (status : ℕ) (inputs outputs : List ℕ) (s : List ℕ) (room : 4 * length (instant_words status inputs outputs) ≤ length s) where
  pub instant_put : (w middle : ℕ) (first second third : List ℕ) → w ≡ instant_word status → middle ≡ 1 + length inputs
      → first ≡ take (4 * 0) s ++ bytes_of (w ∷ []) ++ drop (4 * 0 + 4) s
      → second ≡ take (4 * 1) first ++ bytes_of (map input_word inputs) ++ drop (4 * (1 + length inputs)) first
      → third ≡ take (4 * middle) second ++ bytes_of (map output_word outputs) ++ drop (4 * (middle + length outputs)) second
      → third ≡ bytes_of (instant_words status inputs outputs) ++ drop (4 * length (instant_words status inputs outputs)) s
  unfolding instant_words
  instant_put w middle first second third word mid one two three =
      three
      ∙ ap (λ l. take (4 * middle) l ++ bytes_of (map output_word outputs) ++ drop (4 * (middle + length outputs)) l) with_inputs
      ∙ put_more 0 (instant_word status ∷ map input_word inputs) (map output_word outputs) s middle (middle + length outputs) (omega (arith, mid, lengths)) (omega (arith, length-map outputs output_word)) (omega (arith, mid, long))
      ∙ ap (λ k. bytes_of words ++ drop (4 * k) s) (let e : 0 + length words ≡ length words = omega arith in e)
    where
      words : List ℕ
      words = instant_words status inputs outputs

      lengths : length (map input_word inputs) ≡ length inputs
      lengths = length-map inputs input_word

      long : length words ≡ 1 + length inputs + length outputs
      long = instant_length status inputs outputs

      with_status : first ≡ put 0 (instant_word status ∷ []) s
      with_status = one ∙ ap (λ x. put 0 (x ∷ []) s) word

      with_inputs : second ≡ put 0 (instant_word status ∷ map input_word inputs) s
      with_inputs =
          two
          ∙ ap (λ l. take (4 * 1) l ++ bytes_of (map input_word inputs) ++ drop (4 * (1 + length inputs)) l) with_status
          ∙ put_more 0 (instant_word status ∷ []) (map input_word inputs) s 1 (1 + length inputs) refl (omega (arith, lengths)) (omega (arith, long))
