-- Laws of lists by position.
--     entry_member         entry j is a member
--     on_entries           what holds of each entry holds of each member
--     map_at               entry i of the images is the image of entry i
--     map_snoc             the images of a list with one member more
--     map_same             functions that agree have the same images
--     map_entries          so have functions that agree on the list's entries
--     filled_more          a list that a loop fills from the front: what holds of each entry below q, and of the value
--                          stored at q, holds of each entry below q + 1
use mathlib.Core.Path.{◌≡◌, refl, ap, ap₂, subst⁻¹}
use mathlib.Core.List.{List, [], ◌∷◌, ◌++◌, map, Memᴰ}
use Prim.Native.Nat.{ℕ, zero, suc, ◌+◌, ◌<◌}
use native.Mathlib.Nat.{not-suc-le-zero, le_of_suc-le-suc}
use native.Mathlib.Decide.{ℕ_discrete}
use native.Mathlib.Omega.{arith}
use lib.ListN.{length, get_or, set}
use lib.Seq.{get_or-set_same, get_or-set_other}
use Rattle.laws.proofs.Sets.{Within, on_cons}

pub entry_member : (l : List ℕ) (j : ℕ) → j < length l → Memᴰ (get_or l j 0) l
entry_member [] j h = absurd (not-suc-le-zero h)
entry_member (x ∷ l) zero h = Memᴰ.head refl
entry_member (x ∷ l) (suc j) h = Memᴰ.tail (entry_member l j (le_of_suc-le-suc h))

pub on_entries : (P : ℕ → Type 0) (l : List ℕ) → ((j : ℕ) → j < length l → P (get_or l j 0)) → Within P l
on_entries P [] f x m = elim m [ ]
on_entries P (y ∷ l) f x m = on_cons (f zero (omega arith)) (on_entries P l (λ j lt. f (suc j) (omega arith))) x m

pub map_at : {A B : Type 0} (f : A → B) (l : List A) (i : ℕ) (d : A) (e : B) → i < length l → get_or (map f l) i e ≡ f (get_or l i d)
map_at f [] i d e h = absurd (not-suc-le-zero h)
map_at f (x ∷ l) zero d e h = refl
map_at f (x ∷ l) (suc i) d e h = map_at f l i d e (le_of_suc-le-suc h)

pub map_snoc : {A B : Type 0} (f : A → B) (l : List A) (x : A) → map f (l ++ (x ∷ [])) ≡ map f l ++ (f x ∷ [])
map_snoc f [] x = refl
map_snoc f (y ∷ l) x = ap (λ k. f y ∷ k) (map_snoc f l x)

pub map_same : {A B : Type 0} (f g : A → B) (l : List A) → ((x : A) → f x ≡ g x) → map f l ≡ map g l
map_same f g [] h = refl
map_same f g (x ∷ l) h = ap₂ ◌∷◌ (h x) (map_same f g l h)

pub map_entries : {A B : Type 0} (f g : A → B) (l : List A) (d : A) → ((i : ℕ) → i < length l → f (get_or l i d) ≡ g (get_or l i d)) → map f l ≡ map g l
map_entries f g [] d h = refl
map_entries f g (x ∷ l) d h = ap₂ ◌∷◌ (h zero (omega arith)) (map_entries f g l d (λ i lt. h (suc i) (omega arith)))

module _ {A : Type 0} (P : ℕ → A → Type 0) (l : List A) (q : ℕ) (v d : A) (within : q < length l) where
  pub filled_more : ((j : ℕ) → j < q → P j (get_or l j d)) → P q v → (j : ℕ) → j < q + 1 → P j (get_or (set l q v) j d)
  filled_more below here j lt = go (ℕ_discrete j q)
    where
      go : Dec (j ≡ q) → P j (get_or (set l q v) j d)
      go (yes e) = subst⁻¹ (λ i. P i (get_or (set l q v) i d)) e (subst⁻¹ (P q) (get_or-set_same l q v d within) here)
      go (no n) =
          let h : j < q = omega arith in
          subst⁻¹ (P j) (get_or-set_other l q j v d n) (below j h)
