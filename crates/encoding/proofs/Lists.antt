-- Laws of lists by place.
--     on_places         what holds of each entry holds of each member
--     place_member      entry i is a member
--     on_rest, on_part  what holds of each entry from k on, or of n entries from there, holds of each member of that part
--     map_back          a function that takes each member's image back takes the list of the images back
--     InParts           the parts of a list past its first two entries: the next i, the next j, all others
--     in_parts          of a list that is two entries and three lists
--     parts_whole       a list is its first two entries and those parts
use mathlib.Core.Path.{◌≡◌, refl, sym, ap, ap₂, subst⁻¹, ◌∙◌}
use mathlib.Core.List.{List, [], ◌∷◌, ◌++◌, map, append_assoc, Memᴰ}
use Prim.Native.Nat.{ℕ, zero, suc, ◌+◌, ◌<◌, ◌≤◌}
use native.Mathlib.Nat.{not-suc-le-zero, le_of_suc-le-suc}
use native.Mathlib.Omega.{arith}
use lib.ListN.{length, get_or, take, drop, take-append-drop, length-take, length-drop}
use lib.Seq.{get_or-take, get_or-drop, take_at, drop_at, drop-drop}
use Rattle.laws.proofs.Sets.{Within, on_cons}

pub record InParts {A : Type 0} (w : List A) (i j : ℕ) (l k m : List A) : Type 0 where
  pub first : take i (drop 2 w) ≡ l
  pub second : take j (drop (2 + i) w) ≡ k
  pub third : drop (2 + i + j) w ≡ m

module _ {A : Type 0} where
  pub on_places : (P : A → Type 0) (l : List A) (d : A) → ((i : ℕ) → i < length l → P (get_or l i d)) → Within P l
  on_places P [] d f x m = elim m [ ]
  on_places P (y ∷ l) d f x m = on_cons {P = P} (f zero (omega arith)) (on_places P l d (λ i lt. f (suc i) (omega arith))) x m

  pub place_member : (l : List A) (i : ℕ) (d : A) → i < length l → Memᴰ (get_or l i d) l
  place_member [] i d lt = absurd (not-suc-le-zero lt)
  place_member (x ∷ l) zero d lt = Memᴰ.head refl
  place_member (x ∷ l) (suc i) d lt = Memᴰ.tail (place_member l i d (le_of_suc-le-suc lt))

  pub on_rest : (P : A → Type 0) (l : List A) (k : ℕ) (d : A) → ((i : ℕ) → k ≤ i → i < length l → P (get_or l i d)) → Within P (drop k l)
  on_rest P l k d f = on_places P (drop k l) d (λ i lt. subst⁻¹ P (get_or-drop k l i d) (f (k + i) (omega arith) (omega (arith, length-drop k l))))

  pub on_part : (P : A → Type 0) (l : List A) (k n : ℕ) (d : A) → ((i : ℕ) → k ≤ i → i < k + n → i < length l → P (get_or l i d)) → Within P (take n (drop k l))
  on_part P l k n d f =
      on_places P (take n (drop k l)) d
      (λ i lt.
      let below : i < n = omega (arith, length-take n (drop k l)) in
      subst⁻¹ P (get_or-take n (drop k l) i d below ∙ get_or-drop k l i d) (f (k + i) (omega arith) (omega arith) (omega (arith, length-take n (drop k l), length-drop k l))))

  pub map_back : {B : Type 0} (f : A → B) (g : B → A) (l : List A) → Within (λ x. g (f x) ≡ x) l → map g (map f l) ≡ l
  map_back f g [] h = refl
  map_back f g (x ∷ l) h = ap₂ ◌∷◌ (h x (Memᴰ.head refl)) (map_back f g l (λ y m. h y (Memᴰ.tail m)))

  pub in_parts : (x y : A) (l k m : List A) (i j : ℕ) → length l ≡ i → length k ≡ j → InParts (x ∷ y ∷ l ++ k ++ m) i j l k m
  in_parts x y l k m i j long-l long-k =
      let w : List A = x ∷ y ∷ l ++ k ++ m in
      let past : drop (2 + i) w ≡ k ++ m = sym (drop-drop i 2 w) ∙ ap (drop i) (append_assoc l k m) ∙ drop_at l (k ++ m) i long-l in
      record {
        first = ap (take i) (append_assoc l k m) ∙ take_at l (k ++ m) i long-l;
        second = ap (take j) past ∙ take_at k m j long-k;
        third = sym (drop-drop j (2 + i) w) ∙ ap (drop j) past ∙ drop_at k m j long-k;
      }

  pub parts_whole : (l : List A) (i j : ℕ) (d : A) → 2 ≤ length l →
      get_or l 0 d ∷ get_or l 1 d ∷ take i (drop 2 l) ++ take j (drop (2 + i) l) ++ drop (2 + i + j) l ≡ l
  parts_whole [] i j d h = absurd (omega arith)
  parts_whole (x ∷ []) i j d h = absurd (omega arith)
  parts_whole (x ∷ y ∷ l) i j d h =
      let past : drop (2 + i) (x ∷ y ∷ l) ≡ drop i l = sym (drop-drop i 2 (x ∷ y ∷ l)) in
      let last : drop (2 + i + j) (x ∷ y ∷ l) ≡ drop j (drop i l) = sym (drop-drop j (2 + i) (x ∷ y ∷ l)) ∙ ap (drop j) past in
      ap (λ t. x ∷ y ∷ t)
      (ap₂ (λ k m. take i l ++ take j k ++ m) past last
      ∙ append_assoc (take i l) (take j (drop i l)) (drop j (drop i l))
      ∙ ap (λ t. take i l ++ t) (take-append-drop j (drop i l))
      ∙ take-append-drop i l)
