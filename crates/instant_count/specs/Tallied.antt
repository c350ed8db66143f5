-- Contracts of inner functions: the agents reduced, counted and cleared.
--     Tallied        the count is the number of bits set in the scratch before, and after it the scratch is zero
use Rattle.std.specs.Prelude.{◌≡◌, List, ℕ, length}
use Rattle.lent.specs.Lengths.{no_scratch}
use Rattle.lent.specs.Scratch.{reduced_in}

pub record Tallied (before after : List ℕ) (count : ℕ) : Type 0 where
  pub counted : count ≡ length (reduced_in before)
  pub cleared : after ≡ no_scratch
