-- Contracts of inner functions: rules from an asked set.
--     set_rules      the rules from the members of a set
use Rattle.std.specs.Prelude.{List, [], ◌∷◌, map, ℕ}
use Rattle.tcc.specs.Closure.{Rule}
use Rattle.draft_pairs.specs.TokenSets.{members}

abbrev pub set_rules : ℕ → ℕ → List (Rule ℕ)
set_rules u set = map (λ m. record { premises = m ∷ m ∷ []; conclusion = u }) (members set)
