-- Contracts of inner functions: where a score stands between two instants, by value.
--     state_in       the state that it stands for
--     standing_in    where a score stands in the bytes of a state
use Rattle.std.specs.Prelude.{cond, not, List, ℕ, eqb}
use Rattle.tcc.specs.Instant.{State, running, aborted}
use Rattle.words.specs.Word.{word_at}
use Rattle.flags.specs.Flags.{set_of, flags_of}
use Rattle.lent.specs.States.{aborted_word, agents_in}
use Rattle.instant_state.specs.declared.Standing.{Standing}

unfoldable pub state_in : Standing → State
state_in s = cond s.running (running (set_of s.awake)) aborted

unfoldable pub standing_in : List ℕ → Standing
standing_in s = record { running = not (eqb (word_at s 0) aborted_word); awake = flags_of 1024 (agents_in s) }
