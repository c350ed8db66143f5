-- Where a score stands.
--     standing_state     in the bytes of a state it stands for that state
use mathlib.Core.Path.{◌≡◌, refl, ap, ◌∙◌}
use mathlib.Core.Bool.{Bool, true, false, cond, not}
use mathlib.Core.List.{List}
use Prim.Native.Nat.{ℕ}
use lib.Dec.{eqb}
use Rattle.tcc.specs.Instant.{running, aborted}
use Rattle.words.specs.Word.{word_at}
use Rattle.lent.specs.States.{aborted_word, agents_in, state_of}
use Rattle.lent.proofs.Agents.{agents_set}
use Rattle.instant_state.specs.Standing.{state_in, standing_in}

turned : (b : Bool) (l : List ℕ) → cond (not b) (running l) aborted ≡ cond b aborted (running l)
turned true l = refl
turned false l = refl

pub standing_state : (s : List ℕ) → state_in (standing_in s) ≡ state_of s
unfolding state_in standing_in state_of
standing_state s = ap (λ l. cond (not (eqb (word_at s 0) aborted_word)) (running l) aborted) (agents_set s) ∙ turned (eqb (word_at s 0) aborted_word) (agents_in s)
