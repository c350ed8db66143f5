-- `standing_in`: by word 0 of the state.
use mathlib.Core.Path.{ap₂}
use mathlib.Core.Bool.{Bool, not}
use mathlib.Core.List.{List}
use Prim.Native.Nat.{ℕ}
use borrow.Author.Rules.{rules}
use native.Mathlib.Omega.{arith}
use lib.Dec.{eqb}
use Rattle.words.proofs.Words.{words_length}
use Rattle.lent.specs.States.{aborted_word}
use Rattle.instant_state.specs.Standing.{standing_in}
use Rattle.instant_state.proofs.standing_in.Statement.{statement}
use Rattle.instant_state.proofs.standing_in.Tie as tie

word_at_requires : tie.Need-word_at-running-requires
word_at_requires c κs = omega (arith, words_length c.args.state.now, c.requires)

read_agents_requires : tie.Need-read_agents-awake-requires
read_agents_requires c κs = search rules

returns : tie.Need-returns
unfolding standing_in
returns c = ap₂ (λ (w : ℕ) (l : List Bool). record { running = not (eqb w aborted_word); awake = l }) c.word_at-running.ensures c.read_agents-awake.ensures

pub standing_in_spec : {M : Type 1} → statement M
standing_in_spec =
    tie.close (tie.spec word_at_requires read_agents_requires returns)
