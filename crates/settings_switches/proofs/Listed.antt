-- A list of switches, gone through from its front.
--     contained                   `contains`, at what is listed from a place on
--     flawed                      a switch is listed again or is no token of the score
--     flawed_more, flawed_all     the same of that
--     fault_many, fault_few       so the list meets number 17, by its length or by what it lists
--     faultless                   what is known of a list that does not
use mathlib.Core.Path.{◌≡◌, refl, ap, ap₂, ◌∙◌}
use mathlib.Core.Bool.{Bool, true, false, ◌||◌, or-false}
use mathlib.Core.List.{List, [], ◌∷◌}
use Prim.Native.Nat.{ℕ, suc, ◌+◌, ◌-◌, ◌<◌, ◌≤◌}
use native.Mathlib.Numerals.{add-one}
use native.Mathlib.Omega.{arith}
use borrow.Author.Tests.{le-leb, lt-leb, leb-false}
use lib.Dec.{eqb, leb}
use lib.ListN.{length, length-drop, get_or, take, drop, drop_of_length-le}
use lib.Seq.{drop-cons, take_all}
use Rattle.std.proofs.lemmas.Bool.Decides.{nat_tests}
use Rattle.std.specs.List.{list_any}
use Rattle.laws.specs.Sets.{any, has}
use Rattle.laws.proofs.Booleans.{neither}
use Rattle.settings_switches.specs.Switches.{most_switches, repeated, switch_fault}

-- what is found, then one thing more, then the rest
or_shift : (a b c : Bool) → (a || (b || c)) ≡ ((a || b) || c)
or_shift true b c = refl
or_shift false b c = refl

listed : (t : ℕ) (l : List ℕ) → list_any (λ u. eqb u t) l ≡ has t l
listed t [] = refl
listed t (u ∷ l) = ap₂ (λ a b. a || b) (grind (arith, nat_tests)) (listed t l)

pub contained : (t : ℕ) (l : List ℕ) (i : ℕ) → list_any (λ u. eqb u t) (take (length l - i) (drop i l)) ≡ has t (drop i l)
contained t l i = rw (take_all (length l - i) (drop i l) (omega (arith, length-drop i l))) (listed t (drop i l))

abbrev pub flawed : ℕ → List ℕ → Bool
flawed tokens l = repeated l || any (λ t. leb tokens t) l

flawed_first : (tokens t : ℕ) (l : List ℕ) → flawed tokens (t ∷ l) ≡ ((leb tokens t || has t l) || flawed tokens l)
flawed_first tokens t l = go (has t l) (repeated l) (leb tokens t) (any (λ u. leb tokens u) l)
  where
    go : (a b c d : Bool) → ((a || b) || (c || d)) ≡ ((c || a) || (b || d))
    go true b true d = refl
    go true b false d = refl
    go false true true d = refl
    go false true false d = refl
    go false false true d = refl
    go false false false d = refl

module _ (tokens : ℕ) (l : List ℕ) (found : Bool) (i : ℕ) (so : flawed tokens l ≡ (found || flawed tokens (drop i l))) where
  pub flawed_more : i < length l → flawed tokens l ≡ ((found || (leb tokens (get_or l i 0) || has (get_or l i 0) (drop (i + 1) l))) || flawed tokens (drop (i + 1) l))
  flawed_more lt =
      let t = get_or l i 0 in
      let rest = drop (suc i) l in
      so ∙ ap (λ r. found || flawed tokens r) (drop-cons l i 0 lt) ∙ ap (λ b. found || b) (flawed_first tokens t rest)
      ∙ or_shift found (leb tokens t || has t rest) (flawed tokens rest) ∙ rw (add-one i)

  pub flawed_all : length l ≤ i → found ≡ flawed tokens l
  flawed_all le = rw (so, drop_of_length-le l le, or-false found)

module _ (tokens : ℕ) (l : List ℕ) where
  pub fault_many : most_switches < length l → true ≡ switch_fault tokens l
  unfolding switch_fault
  fault_many h = rw (le-leb (suc most_switches) (length l) h)

  pub fault_few : length l ≤ most_switches → switch_fault tokens l ≡ flawed tokens l
  unfolding switch_fault
  fault_few h = rw (lt-leb (suc most_switches) (length l) (omega arith))

  pub faultless : switch_fault tokens l ≡ false → (length l ≤ most_switches) × (repeated l ≡ false) × (any (λ t. leb tokens t) l ≡ false)
  unfolding switch_fault
  faultless e =
      let (front, known) = neither (leb (suc most_switches) (length l) || repeated l) (any (λ t. leb tokens t) l) e in
      let (few, once) = neither (leb (suc most_switches) (length l)) (repeated l) front in
      (omega (arith, leb-false (suc most_switches) (length l) few), once, known)
