-- Lists in which nothing stands twice.
--     rising_different       a rising list
--     different_map          the images under a function that keeps the members apart
--     different_append       two lists that share nothing
--     different_few          one among the members of another is no longer
use mathlib.Core.Path.{◌≡◌, refl, sym, ap, ◌∙◌}
use mathlib.Core.List.{List, ◌∷◌, ◌++◌, map, Memᴰ}
use mathlib.Core.Logic.{◌⊎◌, inl, inr, ⊎_elim}
use Prim.Native.Nat.{ℕ, suc, ◌<◌, ◌≤◌}
use native.Mathlib.Omega.{arith}
use lib.ListN.{length}
use Rattle.laws.specs.Rising.{Rising}
use Rattle.laws.proofs.Sets.{Within, Among}
use Rattle.laws.proofs.Rising.{rising_above}
use Rattle.draft_plain.specs.Limits.{Different, none, more}

pub rising_different : {l : List ℕ} → Rising l → Different l
rising_different Rising.none = none
rising_different Rising.one = more mathlib.Core.List.Memᴰ.not-nil none
rising_different (Rising.more {k = k} lt r) = more (λ m. let above : k < k = rising_above (Rising.more lt r) k m in omega arith) (rising_different r)

module _ {A : Type 0} where
  pub different_map : {B : Type 0} (f : A → B) {l : List A} → Different l → ((x y : A) → Memᴰ x l → Memᴰ y l → f x ≡ f y → x ≡ y) → Different (map f l)
  different_map f none apart = none
  different_map f (more {x = x} {l = l} fresh q) apart =
      let new : Memᴰ (f x) (map f l) → ⊥ = λ m. let (y, n, e) = mathlib.Core.List.Memᴰ.of_map f l m in fresh (mathlib.Core.List.Memᴰ.cast (apart x y (mathlib.Core.List.Memᴰ.head refl) (mathlib.Core.List.Memᴰ.tail n) (sym e)) n) in
      more new (different_map f q (λ y z m n. apart y z (mathlib.Core.List.Memᴰ.tail m) (mathlib.Core.List.Memᴰ.tail n)))

  pub different_append : {l k : List A} → Different l → Different k → Within (λ x. Memᴰ x k → ⊥) l → Different (l ++ k)
  different_append none r h = r
  different_append {k = k} (more {x = x} {l = l} fresh q) r h = more (λ m. ⊎_elim fresh (h x (mathlib.Core.List.Memᴰ.head refl)) (mathlib.Core.List.Memᴰ.append_cases l m)) (different_append q r (λ y m. h y (mathlib.Core.List.Memᴰ.tail m)))

  -- a list without one of its members
  record Without (x : A) (k : List A) : Type 0 where
    rest : List A
    fewer : length k ≡ suc (length rest)
    others : (y : A) → Memᴰ y k → (y ≡ x) ⊎ Memᴰ y rest

  without : {x : A} {k : List A} → Memᴰ x k → Without x k
  without {x} (mathlib.Core.List.Memᴰ.head {x = y} {xs = k} e) = record { rest = k; fewer = refl; others = λ z m. ⊎_elim (λ q. inl (q ∙ sym e)) inr (mathlib.Core.List.Memᴰ.cases_cons m) }
  without {x} (mathlib.Core.List.Memᴰ.tail {x = y} {xs = k} m) =
      let w = without m in
      record { rest = y ∷ w.rest; fewer = ap suc w.fewer; others = λ z n. ⊎_elim (λ q. inr (mathlib.Core.List.Memᴰ.head q)) (λ n'. ⊎_elim inl (λ r. inr (mathlib.Core.List.Memᴰ.tail r)) (w.others z n')) (mathlib.Core.List.Memᴰ.cases_cons n) }

  pub different_few : {l k : List A} → Different l → Among l k → length l ≤ length k
  different_few none h = omega arith
  different_few {k = k} (more {x = x} {l = l} fresh q) h =
      let w = without (h x (mathlib.Core.List.Memᴰ.head refl)) in
      let fits : length l ≤ length w.rest = different_few q (λ y m. ⊎_elim (λ e. absurd (fresh (mathlib.Core.List.Memᴰ.cast (sym e) m))) (λ r. r) (w.others y (h y (mathlib.Core.List.Memᴰ.tail m)))) in
      omega (arith, w.fewer)
