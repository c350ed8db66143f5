-- Laws of the tokens flagged, taken one by one.
--     kept             the numbers flagged below t, rising
--     kept_step        one number more
--     kept_count       counted
--     kept_taken, kept_few    flag by flag; one for each number at most
--     kept_all         where no flag is set from T on, those below T are all
--     kept_room        before the last, there are fewer
use mathlib.Core.Path.{◌≡◌, refl, sym, ap, ◌∙◌}
use mathlib.Core.Bool.{Bool, true, false, cond}
use mathlib.Core.List.{List, [], ◌∷◌, ◌++◌}
use mathlib.Core.Logic.{by_cases}
use Prim.Native.Nat.{ℕ, zero, suc, ◌+◌, ◌<◌, ◌≤◌}
use native.Mathlib.Decide.{dec_lt}
use native.Mathlib.Numerals.{add-one}
use native.Mathlib.Omega.{arith}
use mir.Val.{bool_byte}
use lib.ListN.{length, get_or, take, length-append, length-take}
use Rattle.std.proofs.lemmas.List.{get_or-take}
use Rattle.laws.specs.Sets.{below, keep}
use Rattle.laws.proofs.Booleans.{true_is_false}
use Rattle.laws.proofs.Sets.{on_keep, keep_kept, lt_below, keep_append}
use Rattle.laws.proofs.Rising.{rising_unique}
use Rattle.flags.specs.Flags.{set_of}
use Rattle.flags.proofs.Flags.{flag_member, member_flag}
use Rattle.journal_words.proofs.Rising.{kept_rising, flags_rising}

unfoldable pub kept : List Bool → ℕ → List ℕ
kept flags t = keep (λ i. get_or flags i false) (below t)

bool_byte_few : (b : Bool) → bool_byte b ≤ 1
bool_byte_few true = omega arith
bool_byte_few false = omega arith

module _ (flags : List Bool) where
  pub kept_step : (t : ℕ) (b : Bool) → get_or flags t false ≡ b → kept flags (t + 1) ≡ kept flags t ++ cond b (t ∷ []) []
  unfolding kept
  kept_step t b e =
      ap (λ n. keep (λ i. get_or flags i false) (below n)) (add-one t)
      ∙ keep_append (λ i. get_or flags i false) (below t) (t ∷ [])
      ∙ ap (λ x. keep (λ i. get_or flags i false) (below t) ++ cond x (t ∷ []) []) e

  pub kept_count : (t : ℕ) (b : Bool) → get_or flags t false ≡ b → length (kept flags (t + 1)) ≡ length (kept flags t) + bool_byte b
  kept_count t true e = ap length (kept_step t true e) ∙ length-append (kept flags t) (t ∷ [])
  kept_count t false e = ap length (kept_step t false e) ∙ length-append (kept flags t) []

  -- a flag of those before the T-th, counted as a number
  pub kept_taken : (T t : ℕ) → t < length (take T flags) → length (kept flags t) + bool_byte (get_or (take T flags) t false) ≡ length (kept flags (t + 1))
  kept_taken T t h = let lt : t < T = omega (arith, length-take T flags) in rw (get_or-take T flags t false lt) (sym (kept_count t _ refl))

  pub kept_few : (t : ℕ) → length (kept flags t) ≤ t
  unfolding kept
  kept_few zero = omega arith
  kept_few (suc t) = omega (arith, kept_few t, kept_count t (get_or flags t false) refl, bool_byte_few (get_or flags t false), ap (λ k. length (kept flags k)) (add-one t))

  kept_grows : (t n : ℕ) → t ≤ n → length (kept flags t) ≤ length (kept flags n)
  kept_grows t zero h = let e : length (kept flags t) ≡ length (kept flags 0) = ap (λ k. length (kept flags k)) (omega arith) in omega arith
  kept_grows t (suc n) h = by_cases (dec_lt n t)
      (λ g. let e : length (kept flags t) ≡ length (kept flags (suc n)) = ap (λ k. length (kept flags k)) (omega arith) in omega arith)
      (λ g. omega (arith, kept_grows t n (omega arith), kept_count n (get_or flags n false) refl, ap (λ k. length (kept flags k)) (add-one n)))

  module _ (T : ℕ) (h : (i : ℕ) → T ≤ i → get_or flags i false ≡ false) where
    pub kept_all : kept flags T ≡ set_of flags
    unfolding kept
    kept_all = rising_unique (kept_rising (λ i. get_or flags i false) T).rises (flags_rising flags).rises (λ t. (
      λ m. flag_member flags (on_keep {P = λ i. get_or flags i false ≡ true} (λ i. get_or flags i false) (below T) (λ i k p. p) t m),
      λ m. by_cases (dec_lt t T)
          (λ l. keep_kept (λ i. get_or flags i false) (lt_below T l) (member_flag flags m))
          (λ g. absurd (true_is_false (member_flag flags m) (h t (omega arith)))),
    ))

    pub kept_room : (t : ℕ) → t < T → get_or flags t false ≡ true → length (kept flags t) < length (set_of flags)
    kept_room t l e = omega (arith, kept_count t true e, kept_grows (t + 1) T (omega arith), ap length kept_all)
