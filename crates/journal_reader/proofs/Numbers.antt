-- Laws of the numbers 12 and 13.
--     against_more     one word more before the lowest word against its form
--     against_first    the word that the form names is the lowest against it
--     never_bytes      the form of words is never that of broken ones
--     word_meets       bytes whose form names a word meet 13 with it
--     form_meets       bytes that are not of good form meet their form's number, with its word
use mathlib.Core.Path.{◌≡◌, refl, sym, ap, subst, ◌∙◌}
use mathlib.Core.Bool.{Bool, true, false, cond}
use mathlib.Core.List.{List, [], ◌∷◌}
use Prim.Native.Nat.{ℕ, zero, suc, ◌+◌, ◌%◌, ◌<◌}
use native.Mathlib.Omega.{arith}
use borrow.Author.Tests.{eqb-true}
use lib.Dec.{eqb}
use lib.ListN.{length, get_or}
use Rattle.words.specs.Word.{words}
use Rattle.journal_form.specs.Form.{Form, Good, Bytes, Word, may_follow, first_against, form_of}
use Rattle.journal_form.proofs.Against.{form_words}
use Rattle.journal_reader.specs.Reading.{form_number, word_of}
use Rattle.journal_reader.specs.Through.{Against, Meets, twelve, thirteen}

module _ (tokens : ℕ) where
  against_more : {last w : ℕ} {ws : List ℕ} {k : ℕ} → may_follow true tokens last w ≡ true → Against tokens w ws k → Against tokens last (w ∷ ws) (suc k)
  against_more {last} {w} {ws} {k} e a = record { within = omega (arith, a.within); against = a.against; lowest = lowest }
    where
      lowest : (i : ℕ) → i < suc k → may_follow true tokens (get_or (last ∷ w ∷ ws) i 0) (get_or (w ∷ ws) i 0) ≡ true
      lowest zero h = e
      lowest (suc i) h = a.lowest i (omega arith)

  -- from word n on
  record First (n last : ℕ) (ws : List ℕ) (k : ℕ) : Type 0 where
    on : ℕ
    is : k ≡ n + on
    first : Against tokens last ws on

  against_first : (ws : List ℕ) (n last k : ℕ) → first_against true tokens n last ws ≡ Word k → First n last ws k
  unfolding first_against
  against_first [] n last k e = absurd (let z : ◌≡◌ {A = ℕ} 0 1 = cc in omega arith)
  against_first (w ∷ ws) n last k e = go (may_follow true tokens last w) refl e (against_first ws (suc n) w k)
    where
      go : (b : Bool) → may_follow true tokens last w ≡ b → cond b (first_against true tokens (suc n) w ws) (Word n) ≡ Word k → (first_against true tokens (suc n) w ws ≡ Word k → First (suc n) w ws k) → First n last (w ∷ ws) k
      go true f e later = let l = later e in record { on = suc l.on; is = omega (arith, l.is); first = against_more f l.first }
      go false f e later = record { on = 0; is = omega (arith, ap word_of e); first = record { within = omega arith; against = f; lowest = λ i h. absurd (omega arith) } }

  never_bytes : (ws : List ℕ) (n last : ℕ) → first_against true tokens n last ws ≡ Bytes → ⊥
  unfolding first_against
  never_bytes [] n last e = let z : ◌≡◌ {A = ℕ} 0 1 = cc in omega arith
  never_bytes (w ∷ ws) n last e = go (may_follow true tokens last w) e (never_bytes ws (suc n) w)
    where
      go : (b : Bool) → cond b (first_against true tokens (suc n) w ws) (Word n) ≡ Bytes → (first_against true tokens (suc n) w ws ≡ Bytes → ⊥) → ⊥
      go true e later = later e
      go false e later = let z : ◌≡◌ {A = ℕ} 0 1 = cc in omega arith

  module _ (bytes : List ℕ) where
    word_meets : (k : ℕ) → form_of true tokens bytes ≡ Word k → Meets tokens bytes 13 k
    unfolding form_of
    word_meets k = go (eqb (length bytes % 4) 0) refl
      where
        go : (b : Bool) → eqb (length bytes % 4) 0 ≡ b → cond b (first_against true tokens 0 0 (words bytes)) Bytes ≡ Word k → Meets tokens bytes 13 k
        go true f e =
            let l = against_first (words bytes) 0 0 k e in
            let same : l.on ≡ k = omega (arith, l.is) in
            thirteen (eqb-true (length bytes % 4) 0 f) (subst (Against tokens 0 (words bytes)) same l.first)
        go false f e = absurd (let z : ◌≡◌ {A = ℕ} 0 1 = cc in omega arith)

    pub form_meets : (f : Form) → form_of true tokens bytes ≡ f → (f ≡ Good → ⊥) → Meets tokens bytes (form_number f) (word_of f)
    form_meets Good e against = absurd (against refl)
    form_meets Bytes e against = twelve (λ four. never_bytes (words bytes) 0 0 (sym (form_words true tokens bytes four) ∙ e))
    form_meets (Word k) e against = word_meets k e
