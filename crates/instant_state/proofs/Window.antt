-- A window of flags, copied to flags that are all unset.
--     windowed     flag i is set where it lies in the window and is set in the store
use Rattle.std.proofs.Common.{◌≡◌, sym, ap, ◌∙◌, ℕ, ◌+◌, ◌-◌, ◌<◌, ◌≤◌, Bool, false, ◌&&◌, List, ◌++◌, length, get_or, take, drop, replicate, length-drop, arith}
use mathlib.Core.Logic.{by_cases}
use native.Mathlib.Decide.{dec_lt}
use borrow.Author.Tests.{le-leb, lt-leb}
use lib.Dec.{leb}
use lib.ListN.{length-replicate, get_or-replicate, get_or-eq_default}
use Rattle.std.proofs.lemmas.List.{get_or-take, get_or-drop, get_or_append_left, get_or-append_right, length-take-le}

unset : (n i : ℕ) → get_or (replicate n false) i false ≡ false
unset n i = by_cases (dec_lt i n)
    (λ h. get_or-replicate n i false false h)
    (λ h. get_or-eq_default (replicate n false) false {n = i} (omega (arith, length-replicate n false)))

module _ (n lowest width : ℕ) (store : List Bool) (fits : lowest + width ≤ n) (long : length store ≡ n) where
  abbrev front : List Bool
  front = take lowest (replicate n false)

  abbrev window : List Bool
  window = take width (drop lowest store)

  abbrev back : List Bool
  back = drop width (drop lowest (replicate n false))

  front_long : length front ≡ lowest
  front_long = length-take-le lowest (replicate n false) (omega (arith, length-replicate n false))

  window_long : length window ≡ width
  window_long = length-take-le width (drop lowest store) (omega (arith, length-drop lowest store))

  pub windowed : (highest : ℕ) → lowest + width ≡ highest + 1 → (i : ℕ) → get_or (front ++ (window ++ back)) i false ≡ (leb lowest i && leb i highest && get_or store i false)
  windowed highest end i = by_cases (dec_lt i lowest) below (λ g. by_cases (dec_lt i (highest + 1)) (λ h. within (omega arith) h) (λ h. above (omega arith)))
    where
      below : i < lowest → get_or (front ++ (window ++ back)) i false ≡ (leb lowest i && leb i highest && get_or store i false)
      below h =
          let out : (leb lowest i && leb i highest && get_or store i false) ≡ false = rw (lt-leb lowest i h) in
          get_or_append_left front (window ++ back) false i (omega (arith, front_long))
          ∙ get_or-take lowest (replicate n false) i false h
          ∙ unset n i
          ∙ sym out

      within : lowest ≤ i → i < highest + 1 → get_or (front ++ (window ++ back)) i false ≡ (leb lowest i && leb i highest && get_or store i false)
      within g h =
          let inside : (leb lowest i && leb i highest && get_or store i false) ≡ get_or store i false = rw (le-leb lowest i g, le-leb i highest (omega arith)) in
          let e : lowest + (i - lowest) ≡ i = omega arith in
          get_or-append_right front (window ++ back) lowest i false front_long g
          ∙ get_or_append_left window back false (i - lowest) (omega (arith, window_long))
          ∙ get_or-take width (drop lowest store) (i - lowest) false (omega arith)
          ∙ get_or-drop lowest store (i - lowest) false
          ∙ ap (λ k. get_or store k false) e
          ∙ sym inside

      above : highest + 1 ≤ i → get_or (front ++ (window ++ back)) i false ≡ (leb lowest i && leb i highest && get_or store i false)
      above g =
          let out : (leb lowest i && leb i highest && get_or store i false) ≡ false = rw (le-leb lowest i (omega arith), lt-leb i highest (omega arith)) in
          get_or-append_right front (window ++ back) lowest i false front_long (omega arith)
          ∙ get_or-append_right window back width (i - lowest) false window_long (omega arith)
          ∙ get_or-drop width (drop lowest (replicate n false)) (i - lowest - width) false
          ∙ get_or-drop lowest (replicate n false) (width + (i - lowest - width)) false
          ∙ unset n (lowest + (width + (i - lowest - width)))
          ∙ sym out
