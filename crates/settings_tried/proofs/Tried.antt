-- Settings with some switches chosen already, tried by the first switch left.
--     press_same      a switch flagged among those chosen, or put to the setting
--     released        a switch as it was
--     tried_one       none is to be pressed
--     tried_none      more are to be pressed than are left
--     tried_both      those with the first one and those without it
--     tried_few       the numbers stay small
use mathlib.Core.Path.{◌≡◌, refl, sym, ap, subst⁻¹, ◌∙◌}
use mathlib.Core.Bool.{Bool, true, false}
use mathlib.Core.List.Memᴰ
use mathlib.Core.List.{List, [], ◌∷◌, ◌++◌, append-nil, map, Memᴰ}
use mathlib.Core.Logic.{⊎_elim}
use Prim.Native.Nat.{ℕ, zero, suc, ◌-◌, ◌<◌, ◌≤◌}
use native.Mathlib.Omega.{arith}
use native.Mathlib.Numerals.{sub-one}
use lib.ListN.{length, get_or, set, length-map}
use lib.Seq.{set-set, set-get_or}
use Rattle.laws.specs.Sets.{Same}
use Rattle.tcc.specs.Score.{Score}
use Rattle.tcc.specs.Instant.{State}
use Rattle.flags.specs.Flags.{set_of}
use Rattle.flags.proofs.Flags.{set_kept, set_here, set_cases}
use Rattle.settings_tried.specs.Settings.{settings, counts}
use Rattle.settings_tried.specs.Sums.{plus}
use Rattle.settings_tried.proofs.Counting.{counts_none, counts_map, counts_few, counted, counts_first, settings_over}
use Rattle.settings_tried.proofs.Binomial.{settings_long, choose_most}

abbrev pub with : List Bool → List ℕ → List ℕ
with chosen s = set_of chosen ++ s

press_same : (chosen : List Bool) (t : ℕ) (s : List ℕ) → t < length chosen → Same (with (set chosen t true) s) (with chosen (t ∷ s))
press_same chosen t s lt x = (to, from)
  where
    to : Memᴰ x (set_of (set chosen t true) ++ s) → Memᴰ x (set_of chosen ++ (t ∷ s))
    to m = ⊎_elim
        (λ (i : Memᴰ x (set_of (set chosen t true))). ⊎_elim
        (λ (e : x ≡ t). Memᴰ.append_right (set_of chosen) (Memᴰ.head e))
        (λ (j : Memᴰ x (set_of chosen)). Memᴰ.append_left (t ∷ s) j)
        (set_cases chosen t i))
        (λ (i : Memᴰ x s). Memᴰ.append_right (set_of chosen) (Memᴰ.tail i))
        (Memᴰ.append_cases (set_of (set chosen t true)) m)

    from : Memᴰ x (set_of chosen ++ (t ∷ s)) → Memᴰ x (set_of (set chosen t true) ++ s)
    from m = ⊎_elim
        (λ (i : Memᴰ x (set_of chosen)). Memᴰ.append_left s (set_kept chosen t i))
        (λ (i : Memᴰ x (t ∷ s)). ⊎_elim
        (λ (e : x ≡ t). Memᴰ.append_left s (subst⁻¹ (λ z. Memᴰ z (set_of (set chosen t true))) e (set_here chosen t lt)))
        (λ (j : Memᴰ x s). Memᴰ.append_right (set_of (set chosen t true)) j)
        (Memᴰ.cases_cons i))
        (Memᴰ.append_cases (set_of chosen) m)

pub released : (chosen last : List Bool) (t : ℕ) → last ≡ set chosen t true → set last t (get_or chosen t false) ≡ chosen
released chosen last t e = ap (λ l. set l t (get_or chosen t false)) e ∙ set-set chosen t true (get_or chosen t false) ∙ set-get_or chosen t false

module _ (sc : Score) (st : State) (chosen : List Bool) where
  pub tried_one : (left : List ℕ) → counts sc st (set_of chosen ∷ []) ≡ counted sc st (with chosen) 0 left
  tried_one left = ap (λ s. counts sc st (s ∷ [])) (sym (append-nil (set_of chosen)))

  pub tried_none : (k : ℕ) (left : List ℕ) → length left < k → record { quiet = 0; clashed = 0; aborted = 0 } ≡ counted sc st (with chosen) k left
  tried_none k left h = sym (ap (λ l. counts sc st (map (with chosen) l)) (settings_over k left h) ∙ counts_none sc st)

  pub tried_both : (k t : ℕ) (left rest : List ℕ) → (k ≡ 0 → ⊥) → left ≡ t ∷ rest → t < length chosen →
      plus (counted sc st (with (set chosen t true)) (k - 1) rest) (counted sc st (with chosen) k rest) ≡ counted sc st (with chosen) k left
  tried_both zero t left rest some first lt = absurd (some refl)
  tried_both (suc k) t left rest some first lt =
      ap (λ n. plus (counted sc st (with (set chosen t true)) n rest) (counted sc st (with chosen) (suc k) rest)) (sub-one (suc k))
      ∙ ap (λ c. plus c (counted sc st (with chosen) (suc k) rest)) (counts_map sc st (with (set chosen t true)) (λ s. with chosen (t ∷ s)) (settings k rest) (λ s. press_same chosen t s lt))
      ∙ sym (counts_first sc st (with chosen) k t rest)
      ∙ ap (counted sc st (with chosen) (suc k)) (sym first)

  pub tried_few : (k : ℕ) (left : List ℕ) → length left ≤ 16 →
      let c = counted sc st (with chosen) k left in (c.quiet ≤ 12870) × (c.clashed ≤ 12870) × (c.aborted ≤ 12870)
  tried_few k left h =
      let few = counts_few sc st (map (with chosen) (settings k left)) in
      let most : length (map (with chosen) (settings k left)) ≤ 12870 = omega (arith, length-map (settings k left) (with chosen), settings_long k left, choose_most (length left) k h) in
      (omega arith, omega arith, omega arith)
