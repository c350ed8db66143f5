-- Laws of the form of words.
--     form_bytes       bytes that are no multiple of 4
--     form_words       bytes that are: the lowest word against its form
--     follows          what a word's form asks, test by test
--     against_good     where word k has its form, those from word k + 1 on
--     against_here     where it has not, word k
--     against_end      past the last word there is none
use mathlib.Core.Path.{◌≡◌}
use mathlib.Core.Bool.{Bool, true, false, cond, ◌&&◌, ◌||◌, and_assoc}
use mathlib.Core.List.{List}
use Prim.Native.Nat.{ℕ, ◌+◌, ◌%◌, ◌<◌, ◌≤◌}
use borrow.Author.Tests.{eq-eqb, ne_eqb}
use native.Mathlib.Numerals.{add-one}
use lib.Dec.{eqb, ltb}
use lib.ListN.{length, get_or, drop, drop_of_length-le}
use lib.Seq.{drop-cons}
use Rattle.words.specs.Word.{words, kind}
use Rattle.format.specs.Format.{is_word}
use Rattle.journal_form.specs.Form.{Good, Bytes, Word, token_of, status_in, is_instant, rises, may_follow, first_against, form_of}

module _ (journal : Bool) (tokens : ℕ) where
  pub form_bytes : (bytes : List ℕ) → (length bytes % 4 ≡ 0 → ⊥) → form_of journal tokens bytes ≡ Bytes
  unfolding form_of
  form_bytes bytes h = rw (ne_eqb _ _ h)

  pub form_words : (bytes : List ℕ) → length bytes % 4 ≡ 0 → form_of journal tokens bytes ≡ first_against journal tokens 0 0 (words bytes)
  unfolding form_of
  form_words bytes h = rw (eq-eqb _ _ h)

  pub follows : (last w : ℕ) {n k : ℕ} {a b c d e f : Bool} → n ≡ cond journal 3 1 → a ≡ (is_word 12 2 w && ltb (status_in w) n) →
      b ≡ is_instant last → c ≡ (is_word 13 8 w && ltb (token_of w) tokens) → d ≡ rises 13 last w →
      k ≡ kind last → e ≡ (is_word 14 8 w && ltb (token_of w) tokens) → f ≡ rises 14 last w →
      (a || c && (b || d) || journal && e && (b || eqb k 13 || f)) ≡ may_follow journal tokens last w
  unfolding may_follow
  follows last w n a b c d k e f = rw (a, n, b, c, d, k, e, f, ← and_assoc)

  module _ (last k : ℕ) (ws : List ℕ) where
    pub against_good : {w : ℕ} {fits : Bool} → k < length ws → w ≡ get_or ws k 0 → fits ≡ may_follow journal tokens last w → fits ≡ true →
        first_against journal tokens k last (drop k ws) ≡ first_against journal tokens (k + 1) w (drop (k + 1) ws)
    unfolding first_against
    against_good lt e f t = rw (add-one k, drop-cons ws k 0 lt, ← e, ← f, t)

    pub against_here : {w : ℕ} {fits : Bool} → k < length ws → w ≡ get_or ws k 0 → fits ≡ may_follow journal tokens last w → fits ≡ false →
        first_against journal tokens k last (drop k ws) ≡ Word k
    unfolding first_against
    against_here lt e f t = rw (drop-cons ws k 0 lt, ← e, ← f, t)

    pub against_end : length ws ≤ k → first_against journal tokens k last (drop k ws) ≡ Good
    unfolding first_against
    against_end le = rw (drop_of_length-le ws le)
