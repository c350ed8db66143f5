-- What a run does with what it is lent: numbers 1 to 9, 12, 13, then instant by instant 11, 18 and 15.
--     Lent             the buffers that the call may write: state, journal, scratch
--     Exit             what they hold afterwards, and the reply
--     length_fault     number 8
--     kept             a refusal: all as it was
--     ended            the instants before the end written, the journal beyond them as it was, the state after them
--     exit             the whole call
--     LeftBy           what its last part leaves
--     RunCall          its contract
use Rattle.std.specs.Prelude.{◌≡◌, Bool, false, cond, not, ◌||◌, List, ◌++◌, ℕ, ◌*◌, eqb, length, drop}
use Rattle.format.specs.Decode.{sizes}
use Rattle.check_verdicts.specs.Verdicts.{by_verdict}
use Rattle.check_score.specs.Check.{verdict}
use Rattle.bits.specs.Bits.{bytes_of}
use Rattle.lent.specs.Lengths.{state_bytes, scratch_bytes, no_scratch}
use Rattle.lent.specs.States.{state_fault}
use Rattle.journal_form.specs.Form.{form_of}
use Rattle.journal_instants.specs.Instants.{input_lists}
use Rattle.journal_step.specs.Reply.{Reply}
use Rattle.refusals.specs.Refused.{Turned, Lengths, State, Next as Unlawful, Full, Last as Past}
use Rattle.journal_step.specs.Reply.{Accepted}
use Rattle.journal_step.specs.ByForm.{by_form}
use Rattle.journal_run_list.specs.Run.{MayStop, Not, Next, Last, Room, Ran, run_from}

pub record Lent : Type 0 where
  pub state : List ℕ
  pub journal : List ℕ
  pub scratch : List ℕ

abbrev pub lent : List ℕ → List ℕ → List ℕ → Lent
lent state journal scratch = record { state = state; journal = journal; scratch = scratch }

pub record Exit : Type 0 where
  pub lent : Lent
  pub reply : Reply

abbrev pub length_fault : Lent → Bool
length_fault l = not (eqb (length l.state) state_bytes) || not (eqb (length l.scratch) scratch_bytes)

abbrev pub kept : Lent → Reply → Exit
kept l r = record { lent = l; reply = r }

-- the reply by the reason for the stop
abbrev pub ending : MayStop → ℕ → Reply
ending Not n = Accepted n
ending Next n = Unlawful
ending Last n = Past n
ending Room n = Full n

abbrev pub ended : Lent → Ran → Exit
ended l r =
    record {
      lent = lent r.state (bytes_of r.words ++ drop (4 * length r.words) l.journal) no_scratch;
      reply = ending r.stop r.instants;
    }

unfoldable pub exit : List ℕ → List ℕ → Lent → Exit
exit score inputs l =
    by_verdict (verdict score) (λ f. kept l (Turned f))
    (cond (length_fault l) (kept l Lengths)
    (cond (state_fault (sizes score).agents l.state) (kept l State)
    (by_form (form_of false (sizes score).tokens inputs) (kept l)
    (ended l (run_from score l.state (length l.journal) (input_lists inputs))))))

-- what a run of a list of good form leaves in the state and in the journal, and its reply
pub record LeftBy (r : Ran) (before state' journal' : List ℕ) (reply : Reply) : Type 0 where
  pub state_is : state' ≡ r.state
  pub journal_is : journal' ≡ bytes_of r.words ++ drop (4 * length r.words) before
  pub reply_is : reply ≡ ending r.stop r.instants

-- the call's contract: over the score, the input list, the buffers before and after, and the reply
pub record RunCall (score inputs : List ℕ) (before after : Lent) (reply : Reply) : Type 0 where
  pub exits : ◌≡◌ {A = Exit} (record { lent = after; reply = reply }) (exit score inputs before)
