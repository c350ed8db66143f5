-- A set of tokens as one number, "the sum of 2 to the power of each token": sets compare as these numbers.
--     holds          whether a token is in a set
--     with           a set with a token added
--     members        the tokens of a set, rising
--     several        whether a set has two tokens or more
use Rattle.std.specs.Prelude.{Bool, cond, List, ℕ, ◌+◌, ◌/◌, ◌%◌, ◌^◌, eqb, ltb, length}
use Rattle.laws.specs.Sets.{below, keep}
use Rattle.tcc.specs.Limits.{most_tokens}

unfoldable pub holds : ℕ → ℕ → Bool
holds set t = eqb (set / 2 ^ t % 2) 1

unfoldable pub with : ℕ → ℕ → ℕ
with t set = cond (holds set t) set (set + 2 ^ t)

unfoldable pub members : ℕ → List ℕ
members set = keep (λ t. holds set t) (below most_tokens)

abbrev pub several : ℕ → Bool
several set = ltb 1 (length (members set))
