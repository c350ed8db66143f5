-- The order in which the switches are listed changes none of the three numbers: switches in another order are some swaps of
-- neighbours away, and no swap changes a number.
--     plus_swap, plus_swaps     the order of adding does not matter
--     Respects            a function over sets keeps tokens the same
--     respects_cons       so it does with one token put to the set before
--     counts_two          the settings by their first two switches
--     counts_swap, counts_swaps    the first two swapped, and any swaps
--     copies_member       what is in a list once or more is a member
--     copies_first, copies_rest    how often the first of a list is in it, and any number in its rest
--     reordered_swaps     switches in another order are some swaps away
--     any_order           the claim
--     reordered_long, reordered_fault     switches in another order are as many, and as good
use mathlib.Core.Path.{◌≡◌, refl, sym, ap, ap₂, ◌∙◌}
use mathlib.Core.Bool.{Bool, true, false, cond, ◌||◌}
use mathlib.Core.List.{List, [], ◌∷◌, map-id, Memᴰ}
use Prim.Native.Nat.{ℕ, zero, suc, ◌<◌}
use native.Mathlib.Omega.{arith}
use lib.Dec.{eqb, leb}
use lib.ListN.{length}
use borrow.Author.Tests.{eqb-true, eq-eqb}
use Rattle.laws.specs.Sets.{Same}
use Rattle.laws.proofs.Sets.{same_cons}
use Rattle.tcc.specs.Score.{Score}
use Rattle.tcc.specs.Instant.{State}
use Rattle.tcc.specs.SameCopies.{copies_of}
use Rattle.settings_switches.specs.Switches.{most_switches, switch_fault}
use Rattle.settings_tried.specs.declared.Counts.{Counts}
use Rattle.settings_tried.specs.Settings.{settings, counts}
use Rattle.settings_tried.specs.AnyOrder.{Reordered, AnyOrder}
use Rattle.settings_tried.specs.Sums.{plus}
use Rattle.settings_tried.proofs.Counting.{three, counts_map, counted, counts_first}
use Rattle.settings_tried.proofs.Swaps.{Swaps, none, under, swap, then, swaps_sym, front, swaps_long, swaps_any, swaps_same, swaps_repeated, swaps_copies}

plus_swap : (a b c : Counts) → plus a (plus b c) ≡ plus b (plus a c)
plus_swap a b c = three (omega arith) (omega arith) (omega arith)

plus_swaps : (a b c d : Counts) → plus (plus a b) (plus c d) ≡ plus (plus a c) (plus b d)
plus_swaps a b c d = three (omega arith) (omega arith) (omega arith)

abbrev Respects : (List ℕ → List ℕ) → Type 0
Respects f = (s t : List ℕ) → Same s t → Same (f s) (f t)

respects_cons : (x : ℕ) {f : List ℕ → List ℕ} → Respects f → Respects (λ s. f (x ∷ s))
respects_cons x r s t same = r (x ∷ s) (x ∷ t) (same_cons x same)

module _ (sc : Score) (st : State) where
  counts_two : (f : List ℕ → List ℕ) (k x y : ℕ) (l : List ℕ) → counted sc st f (suc (suc k)) (x ∷ y ∷ l) ≡ plus (plus (counted sc st (λ s. f (x ∷ y ∷ s)) k l) (counted sc st (λ s. f (x ∷ s)) (suc k) l)) (plus (counted sc st (λ s. f (y ∷ s)) (suc k) l) (counted sc st f (suc (suc k)) l))
  counts_two f k x y l = counts_first sc st f (suc k) x (y ∷ l) ∙ ap₂ plus (counts_first sc st (λ s. f (x ∷ s)) k y l) (counts_first sc st f (suc k) y l)

  counts_swap : (f : List ℕ → List ℕ) → Respects f → (k x y : ℕ) (l : List ℕ) → counted sc st f (suc k) (x ∷ y ∷ l) ≡ counted sc st f (suc k) (y ∷ x ∷ l)
  counts_swap f r zero x y l =
      counts_first sc st f 0 x (y ∷ l)
      ∙ ap (plus (counted sc st (λ s. f (x ∷ s)) 0 l)) (counts_first sc st f 0 y l)
      ∙ plus_swap (counted sc st (λ s. f (x ∷ s)) 0 l) (counted sc st (λ s. f (y ∷ s)) 0 l) (counted sc st f 1 l)
      ∙ ap (plus (counted sc st (λ s. f (y ∷ s)) 0 l)) (sym (counts_first sc st f 0 x l))
      ∙ sym (counts_first sc st f 0 y (x ∷ l))
  counts_swap f r (suc k) x y l =
      let either = counts_map sc st (λ s. f (x ∷ y ∷ s)) (λ s. f (y ∷ x ∷ s)) (settings k l) (λ s. r (x ∷ y ∷ s) (y ∷ x ∷ s) (swaps_same swap)) in
      counts_two f k x y l
      ∙ ap (λ c. plus (plus c (counted sc st (λ s. f (x ∷ s)) (suc k) l)) (plus (counted sc st (λ s. f (y ∷ s)) (suc k) l) (counted sc st f (suc (suc k)) l))) either
      ∙ plus_swaps (counted sc st (λ s. f (y ∷ x ∷ s)) k l) (counted sc st (λ s. f (x ∷ s)) (suc k) l) (counted sc st (λ s. f (y ∷ s)) (suc k) l) (counted sc st f (suc (suc k)) l)
      ∙ sym (counts_two f k y x l)

  counts_swaps : (f : List ℕ → List ℕ) → Respects f → (k : ℕ) {l m : List ℕ} → Swaps l m → counted sc st f k l ≡ counted sc st f k m
  counts_swaps f r zero s = refl
  counts_swaps f r (suc k) none = refl
  counts_swaps f r (suc k) (under {x = x} {l = l} {m = m} s) =
      counts_first sc st f k x l
      ∙ ap₂ plus (counts_swaps (λ s. f (x ∷ s)) (respects_cons x r) k s) (counts_swaps f r (suc k) s)
      ∙ sym (counts_first sc st f k x m)
  counts_swaps f r (suc k) (swap {x = x} {y = y} {l = l}) = counts_swap f r k x y l
  counts_swaps f r (suc k) (then s t) = counts_swaps f r (suc k) s ∙ counts_swaps f r (suc k) t

copies_member : (t : ℕ) (l : List ℕ) → 0 < copies_of t l → Memᴰ t l
copies_member t [] h = absurd (omega arith)
copies_member t (y ∷ l) h = go (eqb t y) refl (copies_member t l) h
  where
    go : (b : Bool) → eqb t y ≡ b → (0 < copies_of t l → Memᴰ t l) → 0 < cond b (suc (copies_of t l)) (copies_of t l) → Memᴰ t (y ∷ l)
    go true e rest h = Memᴰ.head (eqb-true t y e)
    go false e rest h = Memᴰ.tail (rest h)

copies_first : (x : ℕ) (l : List ℕ) → copies_of x (x ∷ l) ≡ suc (copies_of x l)
copies_first x l = rw (eq-eqb x x refl)

copies_rest : (b : Bool) (m n : ℕ) → cond b (suc m) m ≡ cond b (suc n) n → m ≡ n
copies_rest true m n e = omega arith
copies_rest false m n e = e

reordered_swaps : (l m : List ℕ) → Reordered l m → Swaps l m
reordered_swaps [] [] h = none
reordered_swaps [] (y ∷ m) h = absurd (omega (arith, h y, copies_first y m))
reordered_swaps (x ∷ l) m h =
    let (rest, s) = front (copies_member x m (omega (arith, h x, copies_first x l))) in
    then (under (reordered_swaps l rest (λ t. copies_rest (eqb t x) (copies_of t l) (copies_of t rest) (h t ∙ swaps_copies t s)))) (swaps_sym s)

pub any_order : AnyOrder
any_order sc st k switches others h =
    ap (counts sc st) (sym (map-id (settings k switches)))
    ∙ counts_swaps sc st (λ s. s) (λ s t same. same) k (reordered_swaps switches others h)
    ∙ ap (counts sc st) (map-id (settings k others))

module _ (switches others : List ℕ) (h : Reordered switches others) where
  pub reordered_long : length switches ≡ length others
  reordered_long = swaps_long (reordered_swaps switches others h)

  pub reordered_fault : (tokens : ℕ) → switch_fault tokens switches ≡ switch_fault tokens others
  unfolding switch_fault
  reordered_fault tokens =
      let s = reordered_swaps switches others h in
      ap₂ ◌||◌ (ap₂ ◌||◌ (ap (leb (suc most_switches)) (swaps_long s)) (swaps_repeated s)) (swaps_any (leb tokens) s)
