-- Laws of a reader's positions.
--     start_good, start_of_lem     where it starts: in a journal of good form, and in any journal
--     size_part        what is shown at a position is the journal's part there
--     size_fits        it is within the bytes
--     size_shown       its length
--     place_here       where nothing is shown, a reader stays
--     place_more       one instant more
--     place_none       none more
use mathlib.Core.Path.{◌≡◌, refl, sym, ap, ◌∙◌}
use mathlib.Core.Bool.{Bool, true, false, cond}
use mathlib.Core.List.{List, []}
use Prim.Native.Nat.{ℕ, zero, suc, ◌+◌, ◌*◌, ◌-◌, ◌%◌, ◌≤◌}
use native.Mathlib.Omega.{arith}
use lib.Dec.{eqb}
use lib.ListN.{length, take, drop, length-drop}
use lib.Seq.{length-take-le}
use Rattle.words.specs.Word.{words}
use Rattle.journal_form.specs.Form.{Form, Good, form_of}
use Rattle.journal_instants.specs.Parts.{span, part_from, part_at}
use Rattle.journal_instants.proofs.Parts.{span_fits}
use Rattle.journal_positions.specs.Positions.{start_by, start_of, size_at, place_after}

module _ (bytes : List ℕ) where
  pub start_good : {form : Form} → form ≡ Good → 0 ≡ start_by form bytes
  start_good e = ap (λ f. start_by f bytes) (sym e)

  pub start_of_lem : (tokens : ℕ) {form : Form} → form ≡ form_of true tokens bytes → start_by form bytes ≡ start_of tokens bytes
  unfolding start_of
  start_of_lem tokens e = ap (λ f. start_by f bytes) e

module _ (bytes : List ℕ) (at : ℕ) where
  pub size_part : part_at Good bytes at ≡ take (size_at bytes at) (drop at bytes)
  unfolding part_at size_at
  size_part = go (eqb (at % 4) 0)
    where
      go : (b : Bool) → cond b (part_from (drop at bytes)) [] ≡ take (cond b (4 * span (words (drop at bytes))) 0) (drop at bytes)
      go true = refl
      go false = refl

  pub size_fits : size_at bytes at ≤ length bytes - at
  unfolding size_at
  size_fits = go (eqb (at % 4) 0)
    where
      go : (b : Bool) → cond b (4 * span (words (drop at bytes))) 0 ≤ length bytes - at
      go true = omega (arith, span_fits (drop at bytes), length-drop at bytes)
      go false = omega arith

  pub size_shown : length (take (size_at bytes at) (drop at bytes)) ≡ size_at bytes at
  size_shown = length-take-le (size_at bytes at) (drop at bytes) (omega (arith, size_fits, length-drop at bytes))

pub place_here : (n : ℕ) (bytes : List ℕ) (at : ℕ) → size_at bytes at ≡ 0 → at ≡ place_after n bytes at
unfolding place_after
place_here zero bytes at e = refl
place_here (suc n) bytes at e = let f : at ≡ at + size_at bytes at = omega (arith, e) in place_here n bytes at e ∙ ap (place_after n bytes) f

pub place_more : (n m : ℕ) (bytes : List ℕ) (at : ℕ) → n ≡ suc m → place_after n bytes at ≡ place_after m bytes (at + size_at bytes at)
unfolding place_after
place_more n m bytes at e = rw e

pub place_none : (n : ℕ) (bytes : List ℕ) (at : ℕ) → n ≡ 0 → at ≡ place_after n bytes at
unfolding place_after
place_none n bytes at e = rw e
