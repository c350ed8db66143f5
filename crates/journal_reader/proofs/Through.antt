-- Going through a journal with a reader.
use mathlib.Core.Path.{◌≡◌, refl, sym, ap, subst, ◌∙◌}
use mathlib.Core.Bool.{Bool, true, false}
use mathlib.Core.List.{List, [], ◌∷◌, ◌++◌, flatten}
use mathlib.Core.Logic.{◌⊎◌}
use Prim.Native.Nat.{ℕ, zero, suc, ◌+◌, ◌*◌, ◌%◌, ◌<◌, ◌≤◌}
use native.Mathlib.Omega.{arith}
use borrow.Author.Tests.{eq-eqb, ltb-true, ltb-false}
use lib.Dec.{ltb}
use lib.ListN.{length, get_or, take, drop, length-drop, drop_of_length-le, take-append-drop}
use lib.Seq.{drop-drop}
use denote.Ref.{Bor}
use Rattle.words.specs.Word.{words, word_at}
use Rattle.journal_form.specs.Form.{Form, Good, Bytes, Word, is_instant, form_of}
use Rattle.journal_instants.specs.Instants.{instants_in}
use Rattle.journal_instants.specs.Parts.{span}
use Rattle.journal_instants.proofs.Parts.{instants_step, instants_end, part_starts, span_positive, starts_some, good_starts, good_four}
use Rattle.journal_positions.specs.Positions.{start_of, size_at, shown_at, place_after}
use Rattle.journal_positions.proofs.Positions.{start_good, start_of_lem, size_fits, size_shown, place_here}
use Rattle.journal_reader.specs.Reading.{reader_at, moved_by}
use Rattle.journal_reader.specs.Through.{showing, through, Along, GoesThrough, TurnedDown}
use Rattle.journal_reader.proofs.Numbers.{form_meets}

-- ---- one instant

-- a position where an instant starts, or past the last
record At (bytes : List ℕ) (at : ℕ) : Type 0 where
  aligned : at % 4 ≡ 0
  four : length bytes % 4 ≡ 0
  starts : (words (drop at bytes) ≡ []) ⊎ (is_instant (word_at (drop at bytes) 0) ≡ true)

module _ (bytes : List ℕ) (at : ℕ) where
  size_on : at % 4 ≡ 0 → size_at bytes at ≡ 4 * span (words (drop at bytes))
  unfolding size_at
  size_on e = rw (eq-eqb (at % 4) 0 e)

  -- past the end nothing is shown
  size_end : length bytes ≤ at → size_at bytes at ≡ 0
  size_end h = omega (arith, size_fits bytes at)

  beyond : drop (size_at bytes at) (drop at bytes) ≡ drop (at + size_at bytes at) bytes
  beyond = drop-drop (size_at bytes at) at bytes

  joined : shown_at bytes at ++ drop (at + size_at bytes at) bytes ≡ drop at bytes
  joined = ap (λ l. shown_at bytes at ++ l) (sym beyond) ∙ take-append-drop (size_at bytes at) (drop at bytes)

  module _ (a : At bytes at) (more : at < length bytes) where
    left : 4 ≤ length (drop at bytes)
    left = omega (arith, length-drop at bytes, a.aligned, a.four)

    size_some : 4 ≤ size_at bytes at
    size_some = omega (arith, size_on a.aligned, span_positive (drop at bytes) left)

    next : At bytes (at + size_at bytes at)
    next = record {
      aligned = omega (arith, size_on a.aligned, a.aligned);
      four = a.four;
      starts = subst (λ l. (words l ≡ []) ⊎ (is_instant (word_at l 0) ≡ true)) (ap (λ n. drop n (drop at bytes)) (sym (size_on a.aligned)) ∙ beyond) (part_starts (drop at bytes));
    }

    first : instants_in (words (drop at bytes)) ≡ words (shown_at bytes at) ∷ instants_in (words (drop (at + size_at bytes at) bytes))
    first =
        instants_step (drop at bytes) (span_positive (drop at bytes) left) (starts_some (drop at bytes) left a.starts)
        ∙ ap (λ n. words (take n (drop at bytes)) ∷ instants_in (words (drop n (drop at bytes)))) (sym (size_on a.aligned))
        ∙ ap (λ l. words (shown_at bytes at) ∷ instants_in (words l)) beyond

  module _ (a : At bytes at) where
    -- without an instant nothing is left, and with one something is
    ended : length (instants_in (words (drop at bytes))) ≡ 0 → length bytes ≤ at
    ended e = go (ltb at (length bytes)) refl
      where
        go : (b : Bool) → ltb at (length bytes) ≡ b → length bytes ≤ at
        go true t = absurd (omega (arith, e, ap length (first a (ltb-true at (length bytes) t))))
        go false t = ltb-false at (length bytes) t

    goes_on : (n : ℕ) → length (instants_in (words (drop at bytes))) ≡ suc n → at < length bytes
    goes_on n e = go (ltb at (length bytes)) refl
      where
        go : (b : Bool) → ltb at (length bytes) ≡ b → at < length bytes
        go true t = ltb-true at (length bytes) t
        go false t = let short : length (drop at bytes) < 4 = omega (arith, length-drop at bytes, ltb-false at (length bytes) t) in absurd (omega (arith, e, ap length (instants_end (drop at bytes) short)))

-- ---- a journal that is turned down

-- where nothing is shown, nothing is shown further on
still : (bytes : List ℕ) (at : ℕ) → size_at bytes at ≡ 0 → (k : ℕ) → shown_at bytes (place_after k bytes at) ≡ []
still bytes at e k = ap (shown_at bytes) (sym (place_here k bytes at e)) ∙ ap (λ n. take n (drop at bytes)) e

pub turned_down : TurnedDown
turned_down tokens j k = (
  refl,
  λ against. record {
    empty = still j.now (start_of tokens j.now) (size_end j.now (start_of tokens j.now) (past against (form_of true tokens j.now) refl)) k;
    meets = form_meets tokens j.now (form_of true tokens j.now) refl against;
  },
)
  where
    past : (form_of true tokens j.now ≡ Good → ⊥) → (f : Form) → f ≡ form_of true tokens j.now → length j.now ≤ start_of tokens j.now
    past against Good e = absurd (against (sym e))
    past against Bytes e = omega (arith, start_of_lem j.now tokens e)
    past against (Word w) e = omega (arith, start_of_lem j.now tokens e)

-- ---- all instants

module _ (j : Bor (List ℕ)) (form : Form) where
  abbrev bytes : List ℕ
  bytes = j.now

  none : (at : ℕ) → length bytes ≤ at → Along 0 (reader_at j at form) (drop at bytes)
  unfolding through flatten
  none at end =
      let short : length (drop at bytes) < 4 = omega (arith, length-drop at bytes, end) in
      record {
        instants = sym (instants_end (drop at bytes) short);
        together = sym (drop_of_length-le bytes end);
        each = λ k h. absurd (omega arith);
        some = λ k h. absurd (omega arith);
        past = λ k h. still bytes at (size_end bytes at end) k;
      }

  module _ (n at : ℕ) (a : At bytes at) (more : at < length bytes) (later : Along n (reader_at j (at + size_at bytes at) form) (drop (at + size_at bytes at) bytes)) where
    one_more : Along (suc n) (reader_at j at form) (drop at bytes)
    unfolding through place_after flatten
    one_more = record {
      instants = ap (λ l. words (shown_at bytes at) ∷ l) later.instants ∙ sym (first bytes at a more);
      together = ap (λ l. shown_at bytes at ++ l) later.together ∙ joined bytes at;
      each = each;
      some = some;
      past = past;
    }
      where
        each : (k : ℕ) → k < suc n → showing (moved_by k (reader_at j at form)) ≡ get_or (through (suc n) (reader_at j at form)) k []
        each zero h = refl
        each (suc k) h = later.each k (omega arith)

        some : (k : ℕ) → k < suc n → 4 ≤ length (showing (moved_by k (reader_at j at form)))
        some zero h = omega (arith, size_shown bytes at, size_some bytes at a more)
        some (suc k) h = later.some k (omega arith)

        past : (k : ℕ) → suc n ≤ k → showing (moved_by k (reader_at j at form)) ≡ []
        past zero h = absurd (omega arith)
        past (suc k) h = later.past k (omega arith)

  along : (n at : ℕ) → At bytes at → length (instants_in (words (drop at bytes))) ≡ n → Along n (reader_at j at form) (drop at bytes)
  along zero at a e = none at (ended bytes at a e)
  along (suc n) at a e =
      let more = goes_on bytes at a n e in
      one_more n at a more (along n (at + size_at bytes at) (next bytes at a more) (omega (arith, e, ap length (first bytes at a more))))

pub goes_through : GoesThrough
goes_through tokens j good =
    subst (λ at. Along (length (instants_in (words j.now))) (reader_at j at (form_of true tokens j.now)) j.now) (start_good j.now good ∙ start_of_lem j.now tokens refl)
    (along j (form_of true tokens j.now) (length (instants_in (words j.now))) 0 (record { aligned = refl; four = good_four true tokens j.now good; starts = good_starts true tokens j.now good }) refl)
