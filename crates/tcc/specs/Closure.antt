-- The least set that holds given facts and is closed under rules, as a function that computes.
--     Rule          where all the premises are in a set, so is the conclusion
--     fires         whether all the premises of a rule are in a set
--     firing        the first rule that fires, with the other rules
--     close         takes up the conclusion of a rule that fires and goes on with the other rules, until none fires
use Rattle.std.specs.Prelude.{Bool, true, false, List, [], ◌∷◌, ℕ, zero, suc, length}
use Rattle.laws.specs.Sets.{any, every}

pub record Rule (A : Type 0) : Type 0 where
  pub premises : List A
  pub conclusion : A

pub data Firing (A : Type 0) : Type 0 where
  silent : Firing A
  found : Rule A → List (Rule A) → Firing A

-- `same` decides whether two facts are one
module _ {A : Type 0} (same : A → A → Bool) where
  unfoldable pub fires : List A → Rule A → Bool
  fires s r = every (λ p. any (same p) s) r.premises

  abbrev pub passing : Rule A → Firing A → Firing A
  passing r silent = silent
  passing r (found f rest) = found f (r ∷ rest)

  unfoldable pub firing : List A → List (Rule A) → Firing A
  firing s [] = silent
  firing s (r ∷ rules) = elim (fires s r) [ true ↦ found r rules | false ↦ passing r (firing s rules) ]

  -- n bounds the rules left, one of which goes at each turn
  unfoldable pub close_within : ℕ → List (Rule A) → List A → List A
  close_within zero rules s = s
  close_within (suc n) rules s = elim (firing s rules) [ silent ↦ s | found r rest ↦ close_within n rest (r.conclusion ∷ s) ]

  unfoldable pub close : List (Rule A) → List A → List A
  close rules s = close_within (length rules) rules s
