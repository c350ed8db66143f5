-- The bound of `PassBound` is met: 256 rules in their worst order take 257 passes.
--     link           of n tokens, the rule of token k: it follows from the next one; the last is a fact
--     links          the rules of m tokens from k on, rising
--     WorstOrder     in that order each pass finds the premise of one rule alone: from no token there are 257
use Rattle.std.specs.Prelude.{◌≡◌, cond, List, [], ◌∷◌, ℕ, zero, suc, eqb}
use Rattle.tcc.specs.Closure.{Rule}
use Rattle.tcc.specs.Score.{Score}
use Rattle.flags.specs.Flags.{flags_of}
use Rattle.instant_store.specs.PassBound.{PassCount}

abbrev pub link : ℕ → ℕ → Rule ℕ
link n k = record { premises = cond (eqb (suc k) n) [] (suc k ∷ suc k ∷ []); conclusion = k }

abbrev pub links : ℕ → ℕ → ℕ → List (Rule ℕ)
links n k zero = []
links n k (suc m) = link n k ∷ links n (suc k) m

abbrev pub WorstOrder : Type 0
WorstOrder = (sc : Score) (passes : ℕ) → sc.rules ≡ links 256 0 256 → PassCount sc.rules (flags_of 256 []) passes → passes ≡ 257
