-- Demand 3, determinacy, as one claim over a whole list of calls of the instant and of the run, refused ones included.
-- Whatever a console does that meets the contracts, and in whatever order it reduces: at each answered instant up to and
-- with the first abort, every order of reductions from what the finished orders before it left awake is no longer than its
-- weight and, finished, ends as the engine did; each run's journal shows those statuses and outputs, and the run leaves the
-- state after them; a refused call leaves the state as it was. An order sees the score, a multiset of agents and the input tokens, and nothing that a call wrote.
--     Running          a state that is not aborted
--     EndsLike         an order's end and the engine's, read from bytes: abort with status 2; else the same store and
--                      status and, copies aside, the same agents awake next
--     AtInstant        the claim at one instant, for the multiset that its orders start with
--     shown_by         the journal words of answered instants
--     Shows            what a run leaves, given its instants
--     Determined       the claim for a list of calls
--     Determinacy      it holds of every list
--     NotEmpty         so that the claim is not empty: a list of calls has its answered instants, and from what the finished
--                      orders before left awake there is a finished order
use Rattle.std.specs.Prelude.{◌≡◌, ℕ, ◌*◌, ◌≤◌, length, take, drop}
use mathlib.Core.List.{List, [], ◌∷◌, ◌++◌, map, Memᴰ}
use Rattle.laws.specs.Sets.{Same}
use Rattle.tcc.specs.Score.{Score}
use Rattle.tcc.specs.Store.{Closes}
use Rattle.tcc.specs.Order.{Item, End, aborted, left, Order, Finished, awake_next, start}
use Rattle.tcc.specs.Weight.{IsWeight, total}
use Rattle.tcc.specs.Chain.{Chain}
use Rattle.tcc.specs.Instant.{running}
use Rattle.tcc.specs.Instant as state
use Rattle.format.specs.Decode.{decode}
use Rattle.bits.specs.Bits.{bytes_of}
use Rattle.lent.specs.States.{agents_in, state_of}
use Rattle.lent_maps.specs.Maps.{tokens_in}
use Rattle.instant_call.specs.InstantCall.{Lent}
use Rattle.journal_instants.specs.Instants.{input_lists}
use Rattle.journal_words.specs.History.{instant_words}
use Rattle.journal_run.specs.RunCall.{Lent as RunLent}
use Rattle.score_answer.specs.Answer.{number_in}
use Rattle.claims_demands.specs.Calls.{Call, instant, run, InTurn, Answered, written, Plays, Answers}

abbrev pub Running : List ℕ → Type 0
Running s = state_of s ≡ running (agents_in s)

pub record QuietLike (sc : Score) (l : List Item) (s : List ℕ) (p : Answered) : Type 0 where
  pub store : Same s (tokens_in p.store)
  pub clash : Memᴰ 0 s → p.status ≡ 1
  pub no_clash : (Memᴰ 0 s → ⊥) → p.status ≡ 0
  pub is_running : Running p.after
  pub awake : Same (awake_next sc l) (agents_in p.after)

pub record AbortedLike (p : Answered) : Type 0 where
  pub status : p.status ≡ 2
  pub no_store : tokens_in p.store ≡ []
  pub is_aborted : state_of p.after ≡ state.aborted

abbrev pub EndsLike : Score → End → Answered → Type 0
EndsLike sc aborted p = AbortedLike p
EndsLike sc (left l s) p = QuietLike sc l s p

pub record AtInstant (sc : Score) (w : ℕ → ℕ) (copies : List ℕ) (p : Answered) : Type 0 where
  pub bounded : (s : List ℕ) (steps : List Item) (e : End) → Closes sc [] s → Order sc (start copies p.inputs) s steps e → length steps ≤ total w copies p.inputs
  pub ends : (s : List ℕ) (steps : List Item) (e : End) → Closes sc [] s → Order sc (start copies p.inputs) s steps e → Finished sc e → EndsLike sc e p

abbrev pub shown_by : List Answered → List ℕ
shown_by [] = []
shown_by (p ∷ more) = instant_words p.status p.inputs (tokens_in p.output) ++ shown_by more

pub record Shows (before after : RunLent) (played : List Answered) (last : List ℕ) : Type 0 where
  pub state : after.state ≡ last
  pub journal : after.journal ≡ bytes_of (shown_by played) ++ drop (4 * length (shown_by played)) before.journal

pub record Determined (score : List ℕ) (w : ℕ → ℕ) (first : List ℕ) (calls : List Call) (answered : List Answered) : Type 0 where
  pub orders : (earlier later : List Answered) (p : Answered) → answered ≡ earlier ++ p ∷ later →
      (copies awake : List ℕ) → Same copies (agents_in first) → Chain (decode score) copies (map (λ q. q.inputs) earlier) awake →
      AtInstant (decode score) w awake p
  pub runs : (inputs : List ℕ) (before after : RunLent) (answer : ℕ) → Memᴰ (run inputs before after answer) calls →
      (played : List Answered) (last : List ℕ) → Plays score before.state (take (written answer) (input_lists inputs)) played last →
      Shows before after played last
  pub refused : (input : List ℕ) (before after : Lent) (answer : ℕ) → Memᴰ (instant input before after answer) calls →
      (number_in answer ≡ 0 → ⊥) → after.state ≡ before.state

abbrev pub Determinacy : Type 0
Determinacy =
    (score : List ℕ) (w : ℕ → ℕ) (first last : List ℕ) (calls : List Call) (answered : List Answered) →
    Running first → IsWeight (decode score) w → InTurn score first calls last → Answers score calls answered →
    Determined score w first calls answered

abbrev pub NotEmpty : Type 0
NotEmpty =
    ((score first last : List ℕ) (calls : List Call) → InTurn score first calls last → (answered : List Answered) × Answers score calls answered)
    × ((score first last : List ℕ) (calls : List Call) (earlier later : List Answered) (p : Answered) (copies awake s : List ℕ) →
    Running first → InTurn score first calls last → Answers score calls (earlier ++ p ∷ later) →
    Same copies (agents_in first) → Chain (decode score) copies (map (λ q. q.inputs) earlier) awake →
    (steps : List Item) × (e : End) × Order (decode score) (start awake p.inputs) s steps e × Finished (decode score) e)
