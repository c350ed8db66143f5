-- What a call of the instant does with what it is lent: numbers 1 to 10 of the table, in their order, 18 and 11. "18, an
-- instant is wanted at 4,294,967,295, after 10; a lone instant leaves all as it was" (W7).
--     Lent             the buffers that the call may write: state, store map, output map, scratch
--     Exit             what they hold afterwards, and the reply
--     length_fault     number 8
--     token_fault      number 10
--     kept, cleared    a refusal: all as it was; all but the scratch, which is zero
--     answered         the buffers of an answered instant
--     exit             the whole call
--     InstantCall      its contract
use Rattle.std.specs.Prelude.{◌≡◌, Bool, cond, not, ◌||◌, List, ℕ, eqb, leb, length, Ok}
use Rattle.laws.specs.Sets.{any}
use Rattle.tcc.specs.Score.{Score}
use Rattle.tcc.specs.Instant.{Answer, count, output, answer, after}
use Rattle.format.specs.Decode.{sizes, decode}
use Rattle.check_verdicts.specs.Verdicts.{by_verdict}
use Rattle.check_score.specs.Check.{verdict}
use Rattle.lent.specs.Lengths.{state_bytes, map_bytes, scratch_bytes, no_scratch}
use Rattle.lent.specs.States.{state_fault, state_of, as_bytes, next_bytes, at_last}
use Rattle.lent_maps.specs.Maps.{tokens_in, map_of}
use Rattle.refusals.specs.Refused.{Turned, Lengths, State, Input, Next, Last}
use Rattle.instant_call.specs.Reply.{Reply}

pub record Lent : Type 0 where
  pub state : List ℕ
  pub store : List ℕ
  pub output : List ℕ
  pub scratch : List ℕ

abbrev pub lent : List ℕ → List ℕ → List ℕ → List ℕ → Lent
lent state store output scratch = record { state = state; store = store; output = output; scratch = scratch }

pub record Exit : Type 0 where
  pub lent : Lent
  pub reply : Reply

abbrev pub length_fault : List ℕ → Lent → Bool
length_fault input l =
    not (eqb (length l.state) state_bytes) || not (eqb (length input) map_bytes) || not (eqb (length l.store) map_bytes)
    || not (eqb (length l.output) map_bytes) || not (eqb (length l.scratch) scratch_bytes)

abbrev pub token_fault : List ℕ → List ℕ → Bool
token_fault score input = any (λ t. leb (sizes score).tokens t) (tokens_in input)

abbrev pub kept : Lent → Reply → Exit
kept l r = record { lent = l; reply = r }

abbrev pub cleared : Lent → Reply → Exit
cleared l r = record { lent = lent l.state l.store l.output no_scratch; reply = r }

abbrev pub answered : Score → List ℕ → Answer → Exit
answered sc state a =
    record {
      lent = lent (next_bytes state a) (map_of a.store) (map_of (output sc a.status a.store)) no_scratch;
      reply = Ok (record { status = a.status; count = count a });
    }

-- once 1 to 10 and 18 have been tried
abbrev pub played : List ℕ → Lent → Answer → Exit
played score l a = cond (state_fault (sizes score).agents (as_bytes (after a))) (cleared l Next) (answered (decode score) l.state a)

unfoldable pub exit : List ℕ → List ℕ → Lent → Exit
exit score input l =
    by_verdict (verdict score) (λ f. kept l (Turned f))
    (cond (length_fault input l) (kept l Lengths)
    (cond (state_fault (sizes score).agents l.state) (kept l State)
    (cond (token_fault score input) (kept l Input)
    (cond (at_last l.state) (kept l (Last 0))
    (played score l (answer (decode score) (state_of l.state) (tokens_in input)))))))

-- the call's contract: over the score, the input, the buffers before and after, and the reply
pub record InstantCall (score input : List ℕ) (before after : Lent) (reply : Reply) : Type 0 where
  pub exits : ◌≡◌ {A = Exit} (record { lent = after; reply = reply }) (exit score input before)
