-- Lists of calls of the instant and of the run on one score and one state buffer, and the instants that they answered.
--     Call           what a call was lent, what every buffer held afterwards, and the number returned
--     Meets          the call meets its function's contract, the very record that the function ensures
--     InTurn         each call of a list is lent the state that the one before left; any may be refused
--     Answered       an answered instant as bytes show it: the state before it, its input tokens, its status, store map
--                    and output map, the state after it
--     written        the instants that a run wrote, as its answer says: those of 0, 15 and 18. (11 would not say; it is
--                    never returned: NoEleven.)
--     Plays          the instant call, over and over: from a state, along the input tokens of instants, to a state
--     Answers        "The list's instants are those that were answered: one for an accepted instant call, for a run those
--                    that it wrote, also where it was then stopped. Any other refused call has none." "An instant of a run
--                    has the end that the instant call gives from the same state on the same input."
use Rattle.std.specs.Prelude.{◌≡◌, cond, ◌||◌, List, [], ◌∷◌, ◌++◌, ℕ, eqb, take}
use Rattle.lent_maps.specs.Maps.{tokens_in, map_of}
use Rattle.instant_call.specs.InstantCall.{Lent}
use Rattle.journal_instants.specs.Instants.{input_lists}
use Rattle.journal_run.specs.RunCall.{Lent as RunLent}
use Rattle.score_answer.specs.Answer.{number_in, value_in, status_in}
use Rattle.score.specs.ScoreInstant.{ScoreInstant}
use Rattle.score.specs.ScoreRun.{ScoreRun}

pub data Call : Type 0 where
  instant : (input : List ℕ) (before after : Lent) (answer : ℕ) → Call
  run : (inputs : List ℕ) (before after : RunLent) (answer : ℕ) → Call

abbrev pub Meets : List ℕ → Call → Type 0
Meets score (instant input before after answer) = ScoreInstant score input before after answer
Meets score (run inputs before after answer) = ScoreRun score inputs before after answer

abbrev pub state_before : Call → List ℕ
state_before (instant input before after answer) = before.state
state_before (run inputs before after answer) = before.state

abbrev pub state_after : Call → List ℕ
state_after (instant input before after answer) = after.state
state_after (run inputs before after answer) = after.state

pub data InTurn (score : List ℕ) : List ℕ → List Call → List ℕ → Type 0 where
  none : {s : List ℕ} → InTurn score s [] s
  then : {s last : List ℕ} {call : Call} {calls : List Call} →
      Meets score call → state_before call ≡ s → InTurn score (state_after call) calls last → InTurn score s (call ∷ calls) last

pub record Answered : Type 0 where
  pub before : List ℕ
  pub inputs : List ℕ
  pub status : ℕ
  pub store : List ℕ
  pub output : List ℕ
  pub after : List ℕ

-- the instant of an accepted instant call
abbrev pub answered_by : List ℕ → Lent → Lent → ℕ → Answered
answered_by inputs before after answer =
    record { before = before.state; inputs = inputs; status = status_in answer; store = after.store; output = after.output; after = after.state }

abbrev pub written : ℕ → ℕ
written answer = cond (eqb (number_in answer) 0 || eqb (number_in answer) 15 || eqb (number_in answer) 18) (value_in answer) 0

pub data Plays (score : List ℕ) : List ℕ → List (List ℕ) → List Answered → List ℕ → Type 0 where
  none : {s : List ℕ} → Plays score s [] [] s
  then : {s inputs last : List ℕ} {more : List (List ℕ)} {played : List Answered} {before after : Lent} {answer : ℕ} →
      before.state ≡ s → ScoreInstant score (map_of inputs) before after answer → number_in answer ≡ 0 →
      Plays score after.state more played last → Plays score s (inputs ∷ more) (answered_by inputs before after answer ∷ played) last

pub data Answers (score : List ℕ) : List Call → List Answered → Type 0 where
  none : Answers score [] []
  one : {input : List ℕ} {before after : Lent} {answer : ℕ} {calls : List Call} {more : List Answered} →
      number_in answer ≡ 0 → Answers score calls more →
      Answers score (instant input before after answer ∷ calls) (answered_by (tokens_in input) before after answer ∷ more)
  refused : {input : List ℕ} {before after : Lent} {answer : ℕ} {calls : List Call} {more : List Answered} →
      (number_in answer ≡ 0 → ⊥) → Answers score calls more → Answers score (instant input before after answer ∷ calls) more
  those : {inputs last : List ℕ} {before after : RunLent} {answer : ℕ} {calls : List Call} {played more : List Answered} →
      Plays score before.state (take (written answer) (input_lists inputs)) played last → Answers score calls more →
      Answers score (run inputs before after answer ∷ calls) (played ++ more)

-- number 11 is never returned, by either function
abbrev pub NoEleven : Type 0
NoEleven =
    ((score input : List ℕ) (before after : Lent) (answer : ℕ) → ScoreInstant score input before after answer → number_in answer ≡ 11 → ⊥)
    × ((score inputs : List ℕ) (before after : RunLent) (answer : ℕ) → ScoreRun score inputs before after answer → number_in answer ≡ 11 → ⊥)
