-- A run from the start state.
--     from_start     the buffers that it is lent: the start state, a journal buffer, a clear scratch
--     Played         what it left in the journal buffer, and its number
use Rattle.std.specs.Prelude.{◌≡◌, List, ℕ}
use Rattle.format.specs.Decode.{decode}
use Rattle.lent.specs.States.{start_bytes}
use Rattle.lent.specs.Lengths.{no_scratch}
use Rattle.journal_run.specs.RunCall.{Lent, lent}
use Rattle.score_answer.specs.Answer.{number_in}
use Rattle.score.specs.ScoreRun.{ScoreRun}

abbrev pub from_start : List ℕ → List ℕ → Lent
from_start score journal = lent (start_bytes (decode score)) journal no_scratch

pub record Played (score inputs before after : List ℕ) (number : ℕ) : Type 0 where
  pub left : Lent
  pub answer : ℕ
  pub ran : ScoreRun score inputs (from_start score before) left answer
  pub journal_is : after ≡ left.journal
  pub number_is : number ≡ number_in answer
