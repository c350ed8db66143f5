-- Contracts of inner functions: the pairs that copying meets.
--     Led            references and calls lead to a pair from procedure 0 under no token
--     Overfull       there are more of them than a plain score can have agents and procedures
use mathlib.Core.List.{List, Memᴰ}
use Rattle.std.specs.Prelude.{ℕ, ◌<◌, length}
use Rattle.laws.specs.Rising.{Rising}
use Rattle.draft_language.specs.Draft.{Draft}
use Rattle.draft_pairs.specs.Pairs.{most_pairs, pair}
use Rattle.draft_plain.specs.Places.{procedure_at, leads_to}

pub data Led (d : Draft) : ℕ → Type 0 where
  first : Led d (pair (procedure_at 0) 0)
  on : {k m : ℕ} → Led d k → Memᴰ m (leads_to d k) → Led d m

pub record Overfull (d : Draft) : Type 0 where
  pub pairs : List ℕ
  pub rising : Rising pairs
  pub led : (k : ℕ) → Memᴰ k pairs → Led d k
  pub many : most_pairs < length pairs
