-- An instant from the bytes of a state.
--     answer_in       what the definition of an instant answers
use Rattle.std.specs.Prelude.{List, ℕ}
use Rattle.tcc.specs.Instant.{Answer, answer}
use Rattle.format.specs.Decode.{decode}
use Rattle.lent.specs.States.{state_of}

unfoldable pub answer_in : List ℕ → List ℕ → List ℕ → Answer
answer_in score state inputs = answer (decode score) (state_of state) inputs
