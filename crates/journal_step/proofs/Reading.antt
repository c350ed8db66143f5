-- Reading a list or journal of good form, instant by instant.
--     Reading          what is read starts at an instant word, or nothing is left
--     reading_none     before the first instant
--     Next             the part at a position: an instant's words, the tokens that it tells, and what follows it
--     reading_next     while something is left, there is one
--     reading_end      nothing is left
use mathlib.Core.Path.{◌≡◌, refl, sym, ap, subst, ◌∙◌}
use mathlib.Core.Bool.{Bool, true}
use mathlib.Core.List.{List, [], ◌∷◌, map, Memᴰ}
use mathlib.Core.Logic.{◌⊎◌}
use Prim.Native.Nat.{ℕ, ◌+◌, ◌*◌, ◌%◌, ◌<◌, ◌≤◌}
use native.Mathlib.Omega.{arith}
use lib.ListN.{length, drop, length-drop}
use lib.Seq.{drop-drop}
use Rattle.words.specs.Word.{words, word_at}
use Rattle.journal_form.specs.Form.{Good, is_instant, form_of}
use Rattle.journal_instants.specs.Instants.{instants_in, inputs_in, input_lists}
use Rattle.journal_instants.specs.Parts.{span, part_from, part_at}
use Rattle.journal_instants.proofs.Parts.{instants_step, part_starts, part_length, part_on, span_fits, span_positive, starts_some, good_starts, good_four, instants_end}
use Rattle.journal_words.specs.History.{RisingBelow}
use Rattle.journal_words.proofs.Forms.{good_inputs}

pub record Reading (tokens : ℕ) (bytes : List ℕ) (at : ℕ) : Type 0 where
  pub aligned : at % 4 ≡ 0
  pub within : at ≤ length bytes
  pub four : length bytes % 4 ≡ 0
  pub starts : (words (drop at bytes) ≡ []) ⊎ (is_instant (word_at (drop at bytes) 0) ≡ true)
  pub rising : (l : List ℕ) → Memᴰ l (input_lists (drop at bytes)) → RisingBelow tokens l

pub reading_none : (journal : Bool) (tokens : ℕ) (bytes : List ℕ) → form_of journal tokens bytes ≡ Good → Reading tokens bytes 0
reading_none journal tokens bytes good =
    record { aligned = refl; within = omega arith; four = good_four journal tokens bytes good; starts = good_starts journal tokens bytes good; rising = good_inputs journal tokens bytes good }

pub record Next (tokens : ℕ) (bytes : List ℕ) (at : ℕ) (part : List ℕ) : Type 0 where
  pub some : 4 ≤ length part
  pub fits : at + length part ≤ length bytes
  pub instants : instants_in (words (drop at bytes)) ≡ words part ∷ instants_in (words (drop (at + length part) bytes))
  pub lists : input_lists (drop at bytes) ≡ inputs_in (words part) ∷ input_lists (drop (at + length part) bytes)
  pub told : RisingBelow tokens (inputs_in (words part))
  pub follows : Reading tokens bytes (at + length part)

pub reading_next : (tokens : ℕ) (bytes : List ℕ) (at : ℕ) → Reading tokens bytes at → at < length bytes → Next tokens bytes at (part_at Good bytes at)
unfolding input_lists
reading_next tokens bytes at r more = subst (Next tokens bytes at) (part_on bytes at refl r.aligned) next
  where
    rest : List ℕ
    rest = drop at bytes

    left : 4 ≤ length rest
    left = omega (arith, length-drop at bytes, r.aligned, r.four)

    n : length (part_from rest) ≡ 4 * span (words rest)
    n = part_length rest

    beyond : drop (at + length (part_from rest)) bytes ≡ drop (4 * span (words rest)) rest
    beyond = ap (λ k. drop (at + k) bytes) n ∙ sym (drop-drop (4 * span (words rest)) at bytes)

    step : instants_in (words rest) ≡ words (part_from rest) ∷ instants_in (words (drop (at + length (part_from rest)) bytes))
    step = instants_step rest (span_positive rest left) (starts_some rest left r.starts) ∙ ap (λ k. words (part_from rest) ∷ instants_in (words k)) (sym beyond)

    lists : input_lists rest ≡ inputs_in (words (part_from rest)) ∷ input_lists (drop (at + length (part_from rest)) bytes)
    lists = ap (map inputs_in) step

    next : Next tokens bytes at (part_from rest)
    next = record {
      some = omega (arith, n, span_positive rest left);
      fits = omega (arith, n, span_fits rest, length-drop at bytes, r.within);
      instants = step;
      lists = lists;
      told = r.rising _ (subst (Memᴰ _) (sym lists) (Memᴰ.head refl));
      follows = record {
        aligned = omega (arith, n, r.aligned);
        within = omega (arith, n, span_fits rest, length-drop at bytes, r.within);
        four = r.four;
        starts = subst (λ k. (words k ≡ []) ⊎ (is_instant (word_at k 0) ≡ true)) (sym beyond) (part_starts rest);
        rising = λ l m. r.rising l (subst (Memᴰ l) (sym lists) (Memᴰ.tail m));
      };
    }

pub reading_end : (tokens : ℕ) (bytes : List ℕ) (at : ℕ) → length bytes ≤ at → input_lists (drop at bytes) ≡ []
unfolding input_lists
reading_end tokens bytes at h = ap (map inputs_in) (instants_end (drop at bytes) (omega (arith, length-drop at bytes)))
