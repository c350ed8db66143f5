-- A setting tried by the instant call.
--     Tried      a call, with buffers of the right lengths, from a state, its number aside, with exactly a setting's tokens as
--                input: it ends with a status. At the last number there is no such call.
use Rattle.std.specs.Prelude.{◌≡◌, false, List, ℕ, ◌<◌}
use Rattle.laws.specs.Sets.{Same}
use Rattle.lent.specs.States.{instant_number, last_number, SameButNumber}
use Rattle.lent_maps.specs.Maps.{tokens_in}
use Rattle.instant_call.specs.InstantCall.{Lent, length_fault}
use Rattle.score_answer.specs.Answer.{status_in}
use Rattle.score.specs.ScoreInstant.{ScoreInstant}

pub record Tried (score state set : List ℕ) (status : ℕ) : Type 0 where
  pub input : List ℕ
  pub before : Lent
  pub after : Lent
  pub answer : ℕ
  pub meets : ScoreInstant score input before after answer
  pub right : length_fault input before ≡ false
  pub from : SameButNumber before.state state
  pub below : instant_number before.state < last_number
  pub pressed : Same (tokens_in input) set
  pub ends : status_in answer ≡ status
