-- The closure of a set under rules, for any test `same` that decides whether two facts are one.
--     Decides            a test is passed by equal facts alone, and by all of them
--     Passes             a property passes from the premises of a rule to its conclusion
--     Follows            a property is closed under rules: it passes at each
--     any_same, same_any     the test `any (same x)` is membership
--     fires_premises, premises_fire     a rule fires if and only if its premises are members
--     Found              what `firing` says of the rule that it finds
--     close_above        the closure holds what it starts with
--     close_closed       and is closed under the rules
--     close_least        every property closed under the rules that holds of the start holds of the closure
--     close_monotone     from more facts and more rules comes more
--     eqb_decides        the test of numbers decides
use mathlib.Core.Path.{◌≡◌, refl, ap}
use mathlib.Core.Bool.{Bool, true, false}
use mathlib.Core.List.{List, [], ◌∷◌, Memᴰ}
use mathlib.Core.Logic.{◌⊎◌, inl, inr, ⊎_elim}
use Prim.Native.Nat.{ℕ, zero, suc, ◌≤◌}
use native.Mathlib.Omega.{arith}
use lib.ListN.{length}
use lib.Dec.{eqb}
use borrow.Author.Tests.{eqb-true, eq-eqb}
use Rattle.laws.specs.Sets.{any}
use Rattle.laws.proofs.Booleans.{true_is_false}
use Rattle.laws.proofs.Sets.{Within, Among, any_some, some_any, every_each, each_every, on_cons}
use Rattle.tcc.specs.Closure.{Rule, Firing, silent, found, fires, passing, firing, close_within, close}

abbrev pub Decides : {A : Type 0} → (A → A → Bool) → Type 0
Decides {A} same = (x y : A) → (same x y ≡ true → x ≡ y) × (x ≡ y → same x y ≡ true)

abbrev pub Passes : {A : Type 0} → (A → Type 0) → Rule A → Type 0
Passes P r = Within P r.premises → P r.conclusion

abbrev pub Follows : {A : Type 0} → (A → Type 0) → List (Rule A) → Type 0
Follows P rules = Within (Passes P) rules

-- rule f fires, rest are the others
pub record Found {A : Type 0} (same : A → A → Bool) (s : List A) (rules : List (Rule A)) (f : Rule A) (rest : List (Rule A)) : Type 0 where
  pub one_less : suc (length rest) ≡ length rules
  pub all : (r : Rule A) → Memᴰ r rules → (r ≡ f) ⊎ Memᴰ r rest
  pub others : Among rest rules
  pub does_fire : fires same s f ≡ true
  pub one_of : Memᴰ f rules

abbrev pub Finds : {A : Type 0} → (A → A → Bool) → List A → List (Rule A) → Firing A → Type 0
Finds {A} same s rules silent = (r : Rule A) → Memᴰ r rules → fires same s r ≡ true → ⊥
Finds {A} same s rules (found f rest) = Found same s rules f rest

-- one turn of `close_within`, by what was found
abbrev turned : {A : Type 0} → (A → A → Bool) → ℕ → List A → Firing A → List A
turned same n s f = elim f [ silent ↦ s | found r rest ↦ close_within same n rest (r.conclusion ∷ s) ]

module _ {A : Type 0} (same : A → A → Bool) where
  -- one rule in front
  passing_finds : (s : List A) (r : Rule A) (rules : List (Rule A)) (f : Firing A) → fires same s r ≡ false → Finds same s rules f → Finds same s (r ∷ rules) (passing same r f)
  passing_finds s r rules silent e h = on_cons (λ p. true_is_false p e) h
  passing_finds s r rules (found f rest) e h = record {
    one_less = let n = h.one_less in omega arith;
    all = on_cons (inr (mathlib.Core.List.Memᴰ.head refl)) (λ q m. ⊎_elim (λ (p : q ≡ f). inl p) (λ (k : Memᴰ q rest). inr (mathlib.Core.List.Memᴰ.tail k)) (h.all q m));
    others = on_cons (mathlib.Core.List.Memᴰ.head refl) (λ q m. mathlib.Core.List.Memᴰ.tail (h.others q m));
    does_fire = h.does_fire;
    one_of = mathlib.Core.List.Memᴰ.tail h.one_of;
  }

  firing_finds : (s : List A) (rules : List (Rule A)) → Finds same s rules (firing same s rules)
  unfolding firing
  firing_finds s [] = λ r m. elim m [ ]
  firing_finds s (r ∷ rules) = go (fires same s r) refl (firing_finds s rules)
    where
      go : (b : Bool) → fires same s r ≡ b → Finds same s rules (firing same s rules) → Finds same s (r ∷ rules) (elim b [ true ↦ found r rules | false ↦ passing same r (firing same s rules) ])
      go true e h = record { one_less = refl; all = λ q m. mathlib.Core.List.Memᴰ.cases_cons m; others = λ q m. mathlib.Core.List.Memᴰ.tail m; does_fire = e; one_of = mathlib.Core.List.Memᴰ.head refl }
      go false e h = passing_finds s r rules (firing same s rules) e h

  within_above : (n : ℕ) (rules : List (Rule A)) (s : List A) → Among s (close_within same n rules s)
  unfolding close_within
  within_above zero rules s x m = m
  within_above (suc n) rules s x m = go (firing same s rules) (λ rest k h. within_above n rest k x h)
    where
      go : (f : Firing A) → ((rest : List (Rule A)) (k : List A) → Memᴰ x k → Memᴰ x (close_within same n rest k)) → Memᴰ x (turned same n s f)
      go silent deeper = m
      go (found r rest) deeper = deeper rest (r.conclusion ∷ s) (mathlib.Core.List.Memᴰ.tail m)

  pub close_above : (rules : List (Rule A)) (s : List A) → Among s (close same rules s)
  unfolding close
  close_above rules s = within_above _ rules s

  module _ (exact : Decides same) where
    pub any_same : (x : A) (l : List A) → any (same x) l ≡ true → Memᴰ x l
    any_same x l e = let y = any_some (same x) l e in mathlib.Core.List.Memᴰ.cast ((exact x y.0).0 y.2) y.1

    pub same_any : {x : A} {l : List A} → Memᴰ x l → any (same x) l ≡ true
    same_any {x} m = some_any (same x) m ((exact x x).1 refl)

    pub fires_premises : (s : List A) (r : Rule A) → fires same s r ≡ true → Among r.premises s
    unfolding fires
    fires_premises s r e x m = any_same x s (every_each (λ p. any (same p) s) m e)

    pub premises_fire : (s : List A) (r : Rule A) → Among r.premises s → fires same s r ≡ true
    unfolding fires
    premises_fire s r h = each_every (λ p. any (same p) s) r.premises (λ x m. same_any (h x m))

    within_closed : (n : ℕ) (rules : List (Rule A)) (s : List A) → length rules ≤ n → Follows (λ x. Memᴰ x (close_within same n rules s)) rules
    unfolding close_within
    within_closed zero [] s fits r m = elim m [ ]
    within_closed zero (q ∷ rules) s fits r m = absurd (omega arith)
    within_closed (suc n) rules s fits r m = go (firing same s rules) (firing_finds s rules) (λ rest k le. within_closed n rest k le r)
      where
        go : (f : Firing A) → Finds same s rules f → ((rest : List (Rule A)) (k : List A) → length rest ≤ n → Memᴰ r rest → Passes (λ x. Memᴰ x (close_within same n rest k)) r) → Passes (λ x. Memᴰ x (turned same n s f)) r
        go silent none deeper h = absurd (none r m (premises_fire s r h))
        go (found q rest) finds deeper h = ⊎_elim
            (λ (e : r ≡ q). mathlib.Core.List.Memᴰ.cast (ap (λ x. x.conclusion) e) (within_above n rest (q.conclusion ∷ s) q.conclusion (mathlib.Core.List.Memᴰ.head refl)))
            (λ (k : Memᴰ r rest). deeper rest (q.conclusion ∷ s) (let l = finds.one_less in omega arith) k h)
            (finds.all r m)

    pub close_closed : (rules : List (Rule A)) (s : List A) → Follows (λ x. Memᴰ x (close same rules s)) rules
    unfolding close
    close_closed rules s = within_closed _ rules s (omega arith)

    within_least : (P : A → Type 0) (n : ℕ) (rules : List (Rule A)) (s : List A) → Follows P rules → Within P s → Within P (close_within same n rules s)
    unfolding close_within
    within_least P zero rules s follows start = start
    within_least P (suc n) rules s follows start = go (firing same s rules) (firing_finds s rules) (λ rest k. within_least P n rest k)
      where
        go : (f : Firing A) → Finds same s rules f → ((rest : List (Rule A)) (k : List A) → Follows P rest → Within P k → Within P (close_within same n rest k)) → Within P (turned same n s f)
        go silent none deeper = start
        go (found q rest) finds deeper = deeper rest (q.conclusion ∷ s) (λ r m. follows r (finds.others r m)) (on_cons (follows q finds.one_of (λ x m. start x (fires_premises s q finds.does_fire x m))) start)

    pub close_least : (P : A → Type 0) (rules : List (Rule A)) (s : List A) → Follows P rules → Within P s → Within P (close same rules s)
    unfolding close
    close_least P rules s = within_least P _ rules s

    pub close_monotone : (rules more : List (Rule A)) (s k : List A) → Among rules more → Among s k → Among (close same rules s) (close same more k)
    close_monotone rules more s k few start = close_least (λ x. Memᴰ x (close same more k)) rules s (λ r m. close_closed more k r (few r m)) (λ x m. close_above more k x (start x m))

pub eqb_decides : Decides eqb
eqb_decides x y = (eqb-true x y, eq-eqb x y)
