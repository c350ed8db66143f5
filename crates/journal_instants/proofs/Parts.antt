-- Laws of the parts of a journal, each from an instant word to the next one or the end.
--     words_drop, words_take     the words after, and up to, a word
--     span_first       the words of the first part, counted from word 1 on
--     span_more        word k starts no instant: the part goes on
--     span_here        word k starts one: the part has k words
--     span_end         past the last word: it has all
--     span_fits        the part is within the bytes
--     span_positive    and has a word, if the bytes have
--     part_length      its length
--     rest_length      what is left is a multiple of 4, if all was
--     instants_step    the first instant, and those of the rest
--     part_starts      the rest has no words or starts with an instant word
--     starts_some      so it starts with one, if it has a word
--     instants_end     bytes without a word have no instants
--     part_on, part_off, part_past     the part from a position on: of a good form, where a word starts; where none does; past the end
--     part_against                     of another form
--     good_starts      bytes of a good form have no words or start with an instant word
--     good_four        and are a multiple of 4
use mathlib.Core.Path.{◌≡◌, refl, sym, ap, ap₂, ◌∙◌}
use mathlib.Core.Bool.{Bool, true, false, cond, ◌&&◌, ◌||◌, and-false}
use mathlib.Core.List.{List, [], ◌∷◌}
use mathlib.Core.Logic.{◌⊎◌, inl, inr}
use Prim.Native.Nat.{ℕ, zero, suc, min, ◌+◌, ◌*◌, ◌%◌, ◌<◌, ◌≤◌}
use borrow.Author.Tests.{eqb-true, ne_eqb}
use native.Mathlib.Numerals.{add-one}
use native.Mathlib.Omega.{arith}
use lib.Dec.{eqb, ltb}
use lib.ListN.{length, get_or, take, drop, length-drop, drop_of_length-le}
use lib.Seq.{length-take-le, drop-cons}
use Rattle.laws.proofs.Booleans.{true_is_false, and_both}
use Rattle.words.specs.Word.{words, word_at, field}
use Rattle.words.proofs.Words.{words_length}
use Rattle.format.specs.Format.{is_word}
use Rattle.journal_form.specs.declared.Misform.{Misform}
use Rattle.journal_form.specs.declared.Misform.TheVariants as Against
use Rattle.std.specs.Prelude.{Err}
use Rattle.journal_form.specs.Form.{Form, Good, Bytes, Word, token_of, is_instant, may_follow, first_against, form_of}
use Rattle.journal_instants.specs.Instants.{up_to, instants_in}
use Rattle.journal_instants.specs.Parts.{span, part_from, part_at}

-- ---- words

four : (k : ℕ) → 4 * suc k ≡ suc (suc (suc (suc (4 * k))))
four k = omega arith

pub words_drop : (bytes : List ℕ) (k : ℕ) → words (drop (4 * k) bytes) ≡ drop k (words bytes)
unfolding words
words_drop s zero = refl
words_drop [] (suc k) = rw (four k)
words_drop (a ∷ []) (suc k) = rw (four k)
words_drop (a ∷ b ∷ []) (suc k) = rw (four k)
words_drop (a ∷ b ∷ c ∷ []) (suc k) = rw (four k)
words_drop (a ∷ b ∷ c ∷ d ∷ s) (suc k) = rw (four k) (words_drop s k)

pub words_take : (bytes : List ℕ) (k : ℕ) → words (take (4 * k) bytes) ≡ take k (words bytes)
unfolding words
words_take s zero = refl
words_take [] (suc k) = rw (four k)
words_take (a ∷ []) (suc k) = rw (four k)
words_take (a ∷ b ∷ []) (suc k) = rw (four k)
words_take (a ∷ b ∷ c ∷ []) (suc k) = rw (four k)
words_take (a ∷ b ∷ c ∷ d ∷ s) (suc k) = rw (four k, words_take s k)

-- ---- the words before the next instant word

up_to_short : (ws : List ℕ) → length (up_to ws) ≤ length ws
unfolding up_to
up_to_short [] = omega arith
up_to_short (w ∷ ws) = go (is_instant w) (up_to_short ws)
  where
    go : (b : Bool) → length (up_to ws) ≤ length ws → length (cond b [] (w ∷ up_to ws)) ≤ suc (length ws)
    go true h = omega arith
    go false h = omega arith

up_to_take : (ws : List ℕ) → take (length (up_to ws)) ws ≡ up_to ws
unfolding up_to
up_to_take [] = refl
up_to_take (w ∷ ws) = go (is_instant w) (up_to_take ws)
  where
    go : (b : Bool) → take (length (up_to ws)) ws ≡ up_to ws → take (length (cond b [] (w ∷ up_to ws))) (w ∷ ws) ≡ cond b [] (w ∷ up_to ws)
    go true e = refl
    go false e = ap (λ l. w ∷ l) e

up_to_skip : (ws : List ℕ) → instants_in (drop (length (up_to ws)) ws) ≡ instants_in ws
unfolding up_to instants_in
up_to_skip [] = refl
up_to_skip (w ∷ ws) = go (is_instant w) refl (up_to_skip ws)
  where
    go : (b : Bool) → is_instant w ≡ b → instants_in (drop (length (up_to ws)) ws) ≡ instants_in ws → instants_in (drop (length (cond b [] (w ∷ up_to ws))) (w ∷ ws)) ≡ instants_in (w ∷ ws)
    go true p e = refl
    go false p e = rw p e

abbrev Starts : List ℕ → Type 0
Starts ws = (ws ≡ []) ⊎ (is_instant (get_or ws 0 0) ≡ true)

up_to_starts : (ws : List ℕ) → Starts (drop (length (up_to ws)) ws)
unfolding up_to
up_to_starts [] = inl refl
up_to_starts (w ∷ ws) = go (is_instant w) refl (up_to_starts ws)
  where
    go : (b : Bool) → is_instant w ≡ b → Starts (drop (length (up_to ws)) ws) → Starts (drop (length (cond b [] (w ∷ up_to ws))) (w ∷ ws))
    go true p s = inr p
    go false p s = s

-- ---- how many words a part has

abbrev pub span_from : ℕ → List ℕ → ℕ
span_from k ws = k + length (up_to (drop k ws))

pub span_first : (ws : List ℕ) → span ws ≡ min (length ws) (span_from 1 ws)
span_first [] = omega arith
span_first (w ∷ ws) = omega (arith, up_to_short ws)

module _ (k : ℕ) (ws : List ℕ) where
  pub span_more : k < length ws → is_instant (get_or ws k 0) ≡ false → span_from k ws ≡ span_from (k + 1) ws
  unfolding up_to
  span_more lt e = rw (add-one k, drop-cons ws k 0 lt, e) (omega arith)

  pub span_here : k < length ws → is_instant (get_or ws k 0) ≡ true → min (length ws) (span_from k ws) ≡ k
  unfolding up_to
  span_here lt e = rw (drop-cons ws k 0 lt, e) (omega arith)

  pub span_end : length ws ≤ k → min (length ws) (span_from k ws) ≡ length ws
  span_end le = omega arith

span_short : (ws : List ℕ) → span ws ≤ length ws
span_short [] = omega arith
span_short (w ∷ ws) = omega (arith, up_to_short ws)

pub span_fits : (bytes : List ℕ) → 4 * span (words bytes) ≤ length bytes
span_fits bytes = omega (arith, span_short (words bytes), words_length bytes)

span_some : (ws : List ℕ) → 1 ≤ length ws → 1 ≤ span ws
span_some [] h = h
span_some (w ∷ ws) h = omega arith

pub span_positive : (bytes : List ℕ) → 4 ≤ length bytes → 1 ≤ span (words bytes)
span_positive bytes h = span_some (words bytes) (omega (arith, words_length bytes))

pub part_length : (bytes : List ℕ) → length (part_from bytes) ≡ 4 * span (words bytes)
part_length bytes = length-take-le (4 * span (words bytes)) bytes (span_fits bytes)

pub rest_length : (bytes : List ℕ) → length bytes % 4 ≡ 0 → length (drop (4 * span (words bytes)) bytes) % 4 ≡ 0
rest_length bytes h = omega (arith, length-drop (4 * span (words bytes)) bytes, span_fits bytes)

-- ---- instant by instant

first_and_rest : (ws : List ℕ) → 1 ≤ span ws → is_instant (get_or ws 0 0) ≡ true → instants_in ws ≡ take (span ws) ws ∷ instants_in (drop (span ws) ws)
unfolding instants_in
first_and_rest [] h e = absurd (omega arith)
first_and_rest (w ∷ ws) h e = rw e (ap₂ (λ l r. (w ∷ l) ∷ r) (sym (up_to_take ws)) (sym (up_to_skip ws)))

pub instants_step : (bytes : List ℕ) → 1 ≤ span (words bytes) → is_instant (word_at bytes 0) ≡ true →
    instants_in (words bytes) ≡ words (part_from bytes) ∷ instants_in (words (drop (4 * span (words bytes)) bytes))
instants_step bytes h e = rw (words_take bytes (span (words bytes)), words_drop bytes (span (words bytes))) (first_and_rest (words bytes) h e)

rest_starts : (ws : List ℕ) → Starts (drop (span ws) ws)
rest_starts [] = inl refl
rest_starts (w ∷ ws) = up_to_starts ws

pub part_starts : (bytes : List ℕ) → let rest = drop (4 * span (words bytes)) bytes in (words rest ≡ []) ⊎ (is_instant (word_at rest 0) ≡ true)
part_starts bytes = rw (words_drop bytes (span (words bytes))) (rest_starts (words bytes))

pub starts_some : (bytes : List ℕ) → 4 ≤ length bytes → (words bytes ≡ []) ⊎ (is_instant (word_at bytes 0) ≡ true) → is_instant (word_at bytes 0) ≡ true
starts_some bytes h (inl e) = absurd (omega (arith, words_length bytes, ap length e))
starts_some bytes h (inr e) = e

pub instants_end : (bytes : List ℕ) → length bytes < 4 → instants_in (words bytes) ≡ []
unfolding instants_in
instants_end bytes h = go (words bytes) (omega (arith, words_length bytes))
  where
    go : (ws : List ℕ) → length ws ≡ 0 → instants_in ws ≡ []
    go [] e = refl
    go (w ∷ ws) e = absurd (omega arith)

-- ---- the part from a position on

module _ (bytes : List ℕ) (at : ℕ) where
  pub part_on : {form : Form} → form ≡ Good → at % 4 ≡ 0 → part_from (drop at bytes) ≡ part_at form bytes at
  unfolding part_at
  part_on e h = rw (e, h)

  pub part_off : {form : Form} → form ≡ Good → (at % 4 ≡ 0 → ⊥) → [] ≡ part_at form bytes at
  unfolding part_at
  part_off e h = rw (e, ne_eqb (at % 4) 0 h)

  pub part_past : {form : Form} → form ≡ Good → length bytes < at → [] ≡ part_at form bytes at
  unfolding words part_at
  part_past e l = let le : length bytes ≤ at = omega arith in rw (e, drop_of_length-le bytes le) (none (eqb (at % 4) 0))
    where
      none : (b : Bool) → ◌≡◌ {A = List ℕ} [] (cond b [] [])
      none true = refl
      none false = refl

  pub part_against : {form : Form} {m : Misform} → form ≡ Err m → [] ≡ part_at form bytes at
  unfolding part_at
  part_against {m = Against.Bytes} e = rw e
  part_against {m = Against.Word k} e = rw e

-- ---- a good form

not_word : (b : Bool) (f : Form) (k : ℕ) → cond b f (Word k) ≡ Good → b ≡ true
not_word true f k e = refl
not_word false f k e = let z : ◌≡◌ {A = ℕ} 0 1 = cc in absurd (omega arith)

not_bytes : (b : Bool) (f : Form) → cond b f Bytes ≡ Good → (b ≡ true) × (f ≡ Good)
not_bytes true f e = (refl, e)
not_bytes false f e = let z : ◌≡◌ {A = ℕ} 0 1 = cc in absurd (omega arith)

first_only : (a b c d : Bool) → (a && b || c && false || d && false) ≡ true → a ≡ true
first_only true b c d e = refl
first_only false b c d e = absurd (true_is_false (sym (ap₂ ◌||◌ (and-false c) (and-false d)) ∙ e) refl)

-- no word but an instant word has its form after the word 0
instant_first : (journal : Bool) (tokens w : ℕ) → may_follow journal tokens 0 w ≡ true → is_instant w ≡ true
unfolding may_follow is_word field
instant_first journal tokens w e = (and_both (is_instant w) _ (first_only (is_word 12 2 w) _ (is_word 13 8 w && ltb (token_of w) tokens) (journal && is_word 14 8 w && ltb (token_of w) tokens) e)).0

module _ (journal : Bool) (tokens : ℕ) where
  starts_good : (ws : List ℕ) → first_against journal tokens 0 0 ws ≡ Good → Starts ws
  unfolding first_against
  starts_good [] e = inl refl
  starts_good (w ∷ ws) e = inr (instant_first journal tokens w (not_word _ _ 0 e))

  module _ (bytes : List ℕ) (good : form_of journal tokens bytes ≡ Good) where
    both_good : (eqb (length bytes % 4) 0 ≡ true) × (first_against journal tokens 0 0 (words bytes) ≡ Good)
    unfolding form_of
    both_good = not_bytes (eqb (length bytes % 4) 0) (first_against journal tokens 0 0 (words bytes)) good

    pub good_starts : (words bytes ≡ []) ⊎ (is_instant (word_at bytes 0) ≡ true)
    good_starts = starts_good (words bytes) both_good.1

    pub good_four : length bytes % 4 ≡ 0
    good_four = eqb-true (length bytes % 4) 0 both_good.0
