-- The count by the operational rules: whichever order the agents go in, one tick for each agent of the score that goes,
-- however often it does, makes the count. The ticks stand as the engine's do in the scratch (W4).
--     Ticks            bytes in which the bits set are those of the score's agents that an order reduced
--     Counts           what a number is, by an order's end: 0 where it aborts, else the bits set in any such bytes
--     CountOfOrders    the count of an accepted instant call from a running state, for every finished order
use Rattle.std.specs.Prelude.{◌≡◌, ℕ, ◌<◌, length}
use mathlib.Core.List.{List, [], Memᴰ}
use Rattle.tcc.specs.Score.{Score}
use Rattle.tcc.specs.Store.{Closes}
use Rattle.tcc.specs.Order.{Item, agent, End, aborted, left, Order, Finished, start}
use Rattle.format.specs.Decode.{decode}
use Rattle.lent.specs.States.{agents_in}
use Rattle.lent.specs.Scratch.{reduced_in}
use Rattle.lent_maps.specs.Maps.{tokens_in}
use Rattle.instant_call.specs.InstantCall.{Lent}
use Rattle.score_answer.specs.Answer.{number_in, count_in}
use Rattle.score.specs.ScoreInstant.{ScoreInstant}
use Rattle.claims_demands.specs.Determinacy.{Running}

pub record Ticks (sc : Score) (steps : List Item) (bytes : List ℕ) : Type 0 where
  pub known : (i : ℕ) → Memᴰ i (reduced_in bytes) → i < length sc.agents
  pub went : (i : ℕ) → Memᴰ i (reduced_in bytes) → Memᴰ (agent i) steps
  pub all : (i : ℕ) → i < length sc.agents → Memᴰ (agent i) steps → Memᴰ i (reduced_in bytes)

abbrev pub Counts : Score → List Item → End → ℕ → Type 0
Counts sc steps aborted n = n ≡ 0
Counts sc steps (left l s) n = (bytes : List ℕ) → Ticks sc steps bytes → n ≡ length (reduced_in bytes)

abbrev pub CountOfOrders : Type 0
CountOfOrders =
    (score input : List ℕ) (before after : Lent) (answer : ℕ) → ScoreInstant score input before after answer → number_in answer ≡ 0 → Running before.state →
    (s : List ℕ) (steps : List Item) (e : End) → Closes (decode score) [] s → Order (decode score) (start (agents_in before.state) (tokens_in input)) s steps e →
    Finished (decode score) e → Counts (decode score) steps e (count_in answer)
