-- Rule words by bit 27.
--     rule_fact          a fact's form
--     rule_plain         the form of any other rule
--     word_kind          a word of a kind is of that kind
--     rule_kind          so a rule word is of kind 2
--     premises_fact      a fact has no premises
--     premises_plain     any other rule has two
use mathlib.Core.Path.{◌≡◌, refl, sym, ◌∙◌}
use mathlib.Core.Bool.{Bool, true, false, ◌&&◌}
use mathlib.Core.List.{[], ◌∷◌}
use Prim.Native.Nat.{ℕ}
use lib.Dec.{eqb}
use borrow.Author.Tests.{eqb-true}
use Rattle.laws.proofs.Booleans.{and_both}
use Rattle.words.specs.Word.{field, kind}
use Rattle.format.specs.Format.{clear, is_word, is_fact, is_rule, rule_of}

pub word_kind : (k named w : ℕ) → is_word k named w ≡ true → kind w ≡ k
unfolding is_word
word_kind k named w e = eqb-true (kind w) k (and_both (eqb (kind w) k) (clear named w) e).0

module _ (w : ℕ) where
  pub rule_fact : is_fact w ≡ true → is_rule w ≡ (eqb (kind w) 2 && eqb (field w 8 19) 0)
  unfolding is_rule
  rule_fact e = rw e

  pub rule_plain : is_fact w ≡ false → is_rule w ≡ is_word 2 24 w
  unfolding is_rule
  rule_plain e = rw e

  pub rule_kind : is_rule w ≡ true → kind w ≡ 2
  rule_kind e = go (is_fact w) refl
    where
      go : (b : Bool) → is_fact w ≡ b → kind w ≡ 2
      go true f = eqb-true (kind w) 2 (and_both (eqb (kind w) 2) (eqb (field w 8 19) 0) (sym (rule_fact f) ∙ e)).0
      go false f = word_kind 2 24 w (sym (rule_plain f) ∙ e)

  pub premises_fact : is_fact w ≡ true → (rule_of w).premises ≡ []
  premises_fact e = rw e

  pub premises_plain : is_fact w ≡ false → (rule_of w).premises ≡ field w 8 8 ∷ field w 16 8 ∷ []
  premises_plain e = rw e
