-- How many words and instants.
--     against_few        the word that a form names is one of the words
--     instants_few       there are no more instants than words
use mathlib.Core.Path.{◌≡◌}
use mathlib.Core.Bool.{Bool, true, false, cond}
use mathlib.Core.List.{List, [], ◌∷◌}
use Prim.Native.Nat.{ℕ, suc, ◌+◌, ◌%◌, ◌<◌, ◌≤◌}
use native.Mathlib.Omega.{arith}
use lib.Dec.{eqb}
use lib.ListN.{length}
use Rattle.words.specs.Word.{words}
use Rattle.journal_form.specs.Form.{Bytes, Word, is_instant, may_follow, first_against, form_of}
use Rattle.journal_instants.specs.Instants.{up_to, instants_in}

first_few : (journal : Bool) (T k last : ℕ) (ws : List ℕ) (i : ℕ) → first_against journal T k last ws ≡ Word i → i < k + length ws
unfolding first_against
first_few journal T k last [] i e = absurd (let z : ◌≡◌ {A = ℕ} 0 1 = cc in omega arith)
first_few journal T k last (w ∷ ws) i e = go (may_follow journal T last w) (first_few journal T (suc k) w ws i) e
  where
    go : (b : Bool) → (first_against journal T (suc k) w ws ≡ Word i → i < suc k + length ws) → cond b (first_against journal T (suc k) w ws) (Word k) ≡ Word i → i < k + suc (length ws)
    go true rest h = omega (arith, rest h)
    go false rest h = let z : k ≡ i = cc in omega arith

pub against_few : (journal : Bool) (T : ℕ) (bytes : List ℕ) (i : ℕ) → form_of journal T bytes ≡ Word i → i < length (words bytes)
unfolding form_of
against_few journal T bytes i = go (eqb (length bytes % 4) 0)
  where
    go : (b : Bool) → cond b (first_against journal T 0 0 (words bytes)) Bytes ≡ Word i → i < length (words bytes)
    go true e = omega (arith, first_few journal T 0 0 (words bytes) i e)
    go false e = absurd (let z : ◌≡◌ {A = ℕ} 0 1 = cc in omega arith)

pub instants_few : (ws : List ℕ) → length (instants_in ws) ≤ length ws
unfolding instants_in
instants_few [] = omega arith
instants_few (w ∷ ws) = go (is_instant w) (instants_few ws)
  where
    go : (b : Bool) → length (instants_in ws) ≤ length ws → length (cond b ((w ∷ up_to ws) ∷ instants_in ws) (instants_in ws)) ≤ suc (length ws)
    go true h = omega arith
    go false h = omega arith
