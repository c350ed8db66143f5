-- The word of a standing fact.
--     fact           the rule of a standing fact
--     fact_rule      a fact word's rule
use mathlib.Core.Path.{◌≡◌}
use mathlib.Core.List.{[]}
use Prim.Native.Nat.{ℕ, ◌<◌}
use native.Mathlib.Omega.{arith}
use borrow.Author.Tests.{eq-eqb}
use Rattle.tcc.specs.Closure.{Rule}
use Rattle.words.specs.Word.{field}
use Rattle.format.specs.Format.{rule_of}
use Rattle.format.proofs.Rule.{premises_fact}
use Rattle.claims_facts.specs.FactForTold.{fact_word}

abbrev pub fact : ℕ → Rule ℕ
fact t = record { premises = []; conclusion = t }

fact_bit : (t : ℕ) → t < 256 → field (fact_word t) 27 1 ≡ 1
unfolding field
fact_bit t h = omega arith

fact_token : (t : ℕ) → t < 256 → field (fact_word t) 0 8 ≡ t
unfolding field
fact_token t h = omega arith

pub fact_rule : (t : ℕ) → t < 256 → rule_of (fact_word t) ≡ fact t
fact_rule t h =
    let premises = premises_fact (fact_word t) (eq-eqb (field (fact_word t) 27 1) 1 (fact_bit t h)) in
    λ i. record { premises = premises i; conclusion = fact_token t h i }
