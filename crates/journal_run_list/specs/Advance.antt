-- Contracts of inner functions: what the parts of a run do, by value.
--     Wrote          one instant that is written: its words at the front of the journal, and where the score stands then
--     Refused        one that is not, and why
--     Advanced       one or the other
--     RanTo          a run from a state's bytes, given by its definition: what it wrote and, if it wrote an instant, where
--                    the score stands and at which number
use Rattle.std.specs.Prelude.{◌≡◌, Bool, cond, List, ◌++◌, ℕ, ◌*◌, eqb, length, drop, Result, Ok, Err}
use Rattle.tcc.specs.Instant.{Answer, after}
use Rattle.format.specs.Decode.{sizes}
use Rattle.bits.specs.Bits.{bytes_of}
use Rattle.lent.specs.States.{state_of, as_bytes, numbered, LawfulState}
use Rattle.instant_state.specs.Standing.{state_in}
use Rattle.journal_run_list.specs.declared.Stop.{Stop}
use Rattle.journal_run_list.specs.declared.Taken.{Taken}
use Rattle.journal_run_list.specs.declared.Ended.{Ended}
use Rattle.journal_run_list.specs.Run.{Not, Ran, stop_at}

pub record Wrote (score : List ℕ) (last : Bool) (a : Answer) (words before after' : List ℕ) (t : Taken) : Type 0 where
  pub not_stopped : stop_at score last a (4 * length words) (length before) ≡ Not
  pub bytes_are : t.bytes ≡ 4 * length words
  pub written : after' ≡ bytes_of words ++ drop (4 * length words) before
  pub stands : state_in t.standing ≡ state_of (as_bytes (after a))
  pub lawful : LawfulState (sizes score).agents (state_in t.standing)

pub record Refused (score : List ℕ) (last : Bool) (a : Answer) (words before after' : List ℕ) (why : Stop) : Type 0 where
  pub stop_is : stop_at score last a (4 * length words) (length before) ≡ Err why
  pub kept : after' ≡ before

abbrev pub Advanced : List ℕ → Bool → Answer → List ℕ → List ℕ → List ℕ → Result Taken Stop → Type 0
Advanced score last a words before after' (Ok t) = Wrote score last a words before after' t
Advanced score last a words before after' (Err why) = Refused score last a words before after' why

pub record RanTo (score s before after' : List ℕ) (r : Ran) (e : Ended) : Type 0 where
  pub stop_is : r.stop ≡ e.stop
  pub instants_are : r.instants ≡ e.instants
  pub journal_is : after' ≡ bytes_of r.words ++ drop (4 * length r.words) before
  pub state_is : r.state ≡ cond (eqb e.instants 0) s (numbered (state_in e.standing) e.number)
  pub lawful : LawfulState (sizes score).agents (state_in e.standing)
