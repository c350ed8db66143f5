-- "Let it count its passes .. in 16 bits. Each pass but the last is proved to add a token .., so the count never passes 257."
-- A store is kept as flags: flag t says whether token t is in.
--     applied        a rule in its turn: its conclusion comes in if all its premises are in
--     pass           one pass: each rule in its turn, in the score's order
--     after          the store after n passes
--     Adds           a token that was out comes in
--     PassCount      how many passes there are: one that adds nothing is the last, one that adds a token is followed by another
--     OneCount       that number is settled
--     Bounded        each pass but the last adds a token, and there are at most 257
--     PassBound      so it is whatever the score and the tokens
use Rattle.std.specs.Prelude.{◌≡◌, Bool, true, false, cond, List, [], ◌∷◌, ℕ, zero, suc, ◌<◌, ◌≤◌, length, get_or, set}
use Rattle.laws.specs.Sets.{every}
use Rattle.tcc.specs.Closure.{Rule}
use Rattle.tcc.specs.Score.{Score}

abbrev pub applied : Rule ℕ → List Bool → List Bool
applied r store = cond (every (λ p. get_or store p false) r.premises) (set store r.conclusion true) store

abbrev pub pass : List (Rule ℕ) → List Bool → List Bool
pass [] store = store
pass (r ∷ rules) store = pass rules (applied r store)

abbrev pub after : List (Rule ℕ) → ℕ → List Bool → List Bool
after rules zero store = store
after rules (suc n) store = after rules n (pass rules store)

pub record Adds (before later : List Bool) : Type 0 where
  pub token : ℕ
  pub out : get_or before token false ≡ false
  pub comes_in : get_or later token false ≡ true

pub data PassCount (rules : List (Rule ℕ)) : List Bool → ℕ → Type 0 where
  last : {store : List Bool} → pass rules store ≡ store → PassCount rules store 1
  more : {store : List Bool} {n : ℕ} → Adds store (pass rules store) → PassCount rules (pass rules store) n → PassCount rules store (suc n)

abbrev pub OneCount : Type 0
OneCount = (sc : Score) (tokens : List Bool) (n₁ n₂ : ℕ) → PassCount sc.rules tokens n₁ → PassCount sc.rules tokens n₂ → n₁ ≡ n₂

pub record Bounded (rules : List (Rule ℕ)) (tokens : List Bool) (passes : ℕ) : Type 0 where
  pub adding : (k : ℕ) → suc k < passes → Adds (after rules k tokens) (after rules (suc k) tokens)
  pub bound : passes ≤ 257

abbrev pub PassBound : Type 0
PassBound = (sc : Score) (tokens : List Bool) (passes : ℕ) → length tokens ≡ 256 → PassCount sc.rules tokens passes → Bounded sc.rules tokens passes
