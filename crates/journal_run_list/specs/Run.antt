-- The instants of a run, one after the other, each from the state that the one before left.
--     MayStop        whether a run stops, and why: not, or for one of three reasons
--     stop_by        why an instant is not written: 11, the next state would meet 9; 18, it is wanted at the last number;
--                    15, its words exceed the bytes left. "18, in a run after 13 and before 15" (W7)
--     stop_at         the same, by the answer
--     Ran            what a run did: the words of the instants written, the state after them, how many, and why it stopped
--     run_from        a run, from a state, with so many journal bytes left
use Rattle.std.specs.Prelude.{Bool, cond, List, [], ◌∷◌, ◌++◌, ℕ, suc, ◌*◌, ◌-◌, leb, length, Result, Ok, Err}
use Rattle.tcc.specs.Instant.{Answer, after}
use Rattle.format.specs.Decode.{sizes, decode}
use Rattle.lent.specs.States.{state_fault, as_bytes, next_bytes, at_last}
use Rattle.journal_words.specs.History.{entry}
use Rattle.journal_step.specs.AnswerIn.{answer_in}
use Rattle.journal_run_list.specs.declared.Stop.{Stop}
use Rattle.journal_run_list.specs.declared.Stop.TheVariants as Why

abbrev pub MayStop : Type 0
MayStop = Result (Unit {0}) Stop

pattern abbrev pub Not : MayStop
Not = Ok tt

pattern abbrev pub Next : MayStop
Next = Err Why.Next

pattern abbrev pub Last : MayStop
Last = Err Why.Last

pattern abbrev pub Room : MayStop
Room = Err Why.Room

abbrev pub stop_by : Bool → Bool → ℕ → ℕ → MayStop
stop_by unlawful last needed room = cond unlawful Next (cond last Last (cond (leb needed room) Not Room))

unfoldable pub stop_at : List ℕ → Bool → Answer → ℕ → ℕ → MayStop
stop_at score last a needed room = stop_by (state_fault (sizes score).agents (as_bytes (after a))) last needed room

pub record Ran : Type 0 where
  pub words : List ℕ
  pub state : List ℕ
  pub instants : ℕ
  pub stop : MayStop

abbrev pub stopped : List ℕ → MayStop → Ran
stopped state why = record { words = []; state = state; instants = 0; stop = why }

-- one instant, then the others
abbrev pub preceded : List ℕ → Ran → Ran
preceded e r = record { words = e ++ r.words; state = r.state; instants = suc r.instants; stop = r.stop }

abbrev pub unless_stopped : MayStop → List ℕ → List ℕ → Ran → Ran
unless_stopped Not state e r = preceded e r
unless_stopped Next state e r = stopped state Next
unless_stopped Last state e r = stopped state Last
unless_stopped Room state e r = stopped state Room

unfoldable pub run_from : List ℕ → List ℕ → ℕ → List (List ℕ) → Ran
run_from score state _ [] = stopped state Not
run_from score state room (inputs ∷ more) =
    unless_stopped (stop_at score (at_last state) (answer_in score state inputs) (4 * length (entry (decode score) inputs (answer_in score state inputs))) room) state
    (entry (decode score) inputs (answer_in score state inputs))
    (run_from score (next_bytes state (answer_in score state inputs)) (room - 4 * length (entry (decode score) inputs (answer_in score state inputs))) more)
