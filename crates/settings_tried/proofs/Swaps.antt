-- One list is the other in another order, by swaps of neighbours; and what such swaps leave as it is.
--     Swaps             from one list to the other
--     swaps_refl, swaps_sym     none at all, and back again
--     front             a member can be brought to the front
--     swaps_long        the length
--     or_swap, or_swaps         the order of tests does not matter
--     swaps_any, swaps_same     whether some member passes a test, the members
--     eqb_comm          two numbers are equal either way round
--     swaps_repeated    whether a number is listed twice
--     swaps_copies      how often it is listed
use mathlib.Core.Path.{◌≡◌, refl, sym, ap, ap₂, subst, ◌∙◌}
use mathlib.Core.Bool.{Bool, true, false, cond, ◌||◌}
use mathlib.Core.List.{List, [], ◌∷◌, Memᴰ}
use Prim.Native.Nat.{ℕ, suc}
use lib.Dec.{eqb}
use lib.ListN.{length}
use borrow.Author.Tests.{eqb-true, eq-eqb}
use Rattle.laws.specs.Sets.{Same, any, has}
use Rattle.laws.proofs.Booleans.{both_ways}
use Rattle.laws.proofs.Sets.{has_member, member_has}
use Rattle.tcc.specs.SameCopies.{copies_of}
use Rattle.settings_switches.specs.Switches.{repeated}

pub data Swaps : List ℕ → List ℕ → Type 0 where
  none : Swaps [] []
  under : {x : ℕ} {l m : List ℕ} → Swaps l m → Swaps (x ∷ l) (x ∷ m)
  swap : {x y : ℕ} {l : List ℕ} → Swaps (x ∷ y ∷ l) (y ∷ x ∷ l)
  then : {l m n : List ℕ} → Swaps l m → Swaps m n → Swaps l n

swaps_refl : (l : List ℕ) → Swaps l l
swaps_refl [] = none
swaps_refl (x ∷ l) = under (swaps_refl l)

pub swaps_sym : {l m : List ℕ} → Swaps l m → Swaps m l
swaps_sym none = none
swaps_sym (under s) = under (swaps_sym s)
swaps_sym swap = swap
swaps_sym (then s r) = then (swaps_sym r) (swaps_sym s)

pub front : {x : ℕ} {l : List ℕ} → Memᴰ x l → (rest : List ℕ) × Swaps l (x ∷ rest)
front {x} (Memᴰ.head {x = y} {xs = l} e) = (l, subst (λ z. Swaps (y ∷ l) (z ∷ l)) (sym e) (swaps_refl (y ∷ l)))
front (Memᴰ.tail {x = y} m) = let (rest, s) = front m in (y ∷ rest, then (under s) swap)

pub swaps_long : {l m : List ℕ} → Swaps l m → length l ≡ length m
swaps_long none = refl
swaps_long (under s) = ap suc (swaps_long s)
swaps_long swap = refl
swaps_long (then s r) = swaps_long s ∙ swaps_long r

or_swap : (a b c : Bool) → (a || (b || c)) ≡ (b || (a || c))
or_swap true true c = refl
or_swap true false c = refl
or_swap false true c = refl
or_swap false false c = refl

pub swaps_any : (f : ℕ → Bool) {l m : List ℕ} → Swaps l m → any f l ≡ any f m
swaps_any f none = refl
swaps_any f (under {x = x} s) = ap (λ b. f x || b) (swaps_any f s)
swaps_any f (swap {x = x} {y = y} {l = l}) = or_swap (f x) (f y) (any f l)
swaps_any f (then s r) = swaps_any f s ∙ swaps_any f r

pub swaps_same : {l m : List ℕ} → Swaps l m → Same l m
swaps_same {l} {m} s x = (
  λ i. has_member x m (sym (swaps_any (eqb x) s) ∙ member_has i),
  λ i. has_member x l (swaps_any (eqb x) s ∙ member_has i),
)

eqb_comm : (x y : ℕ) → eqb x y ≡ eqb y x
eqb_comm x y = both_ways (λ e. eq-eqb y x (sym (eqb-true x y e))) (λ e. eq-eqb x y (sym (eqb-true y x e)))

or_swaps : (e a b c : Bool) → (e || a || (b || c)) ≡ (e || b || (a || c))
or_swaps true a b c = refl
or_swaps false a b c = or_swap a b c

pub swaps_repeated : {l m : List ℕ} → Swaps l m → repeated l ≡ repeated m
swaps_repeated none = refl
swaps_repeated (under {x = x} s) = ap₂ ◌||◌ (swaps_any (eqb x) s) (swaps_repeated s)
swaps_repeated (swap {x = x} {y = y} {l = l}) = or_swaps (eqb x y) (has x l) (has y l) (repeated l) ∙ ap (λ e. e || has y l || (has x l || repeated l)) (eqb_comm x y)
swaps_repeated (then s r) = swaps_repeated s ∙ swaps_repeated r

pub swaps_copies : (t : ℕ) {l m : List ℕ} → Swaps l m → copies_of t l ≡ copies_of t m
swaps_copies t none = refl
swaps_copies t (under {x = x} s) = ap (λ n. cond (eqb t x) (suc n) n) (swaps_copies t s)
swaps_copies t (swap {x = x} {y = y} {l = l}) = go (eqb t x) (eqb t y) (copies_of t l)
  where
    go : (a b : Bool) (n : ℕ) → cond a (suc (cond b (suc n) n)) (cond b (suc n) n) ≡ cond b (suc (cond a (suc n) n)) (cond a (suc n) n)
    go true true n = refl
    go true false n = refl
    go false true n = refl
    go false false n = refl
swaps_copies t (then s r) = swaps_copies t s ∙ swaps_copies t r
