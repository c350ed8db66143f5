-- Determinacy of one instant: whatever copies it starts with and whichever copy each step picks, every finished order
-- ends as the instant that computes.
--     EndsAs         an end agrees with an answer: abort with abort, with an empty store and no agent; else the same
--                    store, status and agents awake
--     Confluence     every finished order, from any number of copies of each agent
--     Reduced        the agents that a finished, unaborted order reduced are those that the count counts
use Rattle.std.specs.Prelude.{◌≡◌, ℕ, ◌<◌, length}
use mathlib.Core.List.{List, [], Memᴰ}
use Rattle.laws.specs.Sets.{Same}
use Rattle.tcc.specs.Score.{Score}
use Rattle.tcc.specs.Store.{Closes}
use Rattle.tcc.specs.Order.{Item, agent, End, aborted, left, Order, Quiet, Finished, awake_next, start}
use Rattle.tcc.specs.Instant.{Answer, aborted_answer, instant}

pub record QuietAs (sc : Score) (l : List Item) (s : List ℕ) (a : Answer) : Type 0 where
  pub unaborted : a.status ≡ 2 → ⊥
  pub store : Same s a.store
  pub clash : Memᴰ 0 s → a.status ≡ 1
  pub no_clash : (Memᴰ 0 s → ⊥) → a.status ≡ 0
  pub awake : Same (awake_next sc l) a.awake

abbrev pub EndsAs : Score → End → Answer → Type 0
EndsAs sc aborted a = a ≡ aborted_answer
EndsAs sc (left l s) a = QuietAs sc l s a

abbrev pub Confluence : Type 0
Confluence =
    (sc : Score) (agents copies inputs s : List ℕ) (steps : List Item) (e : End) →
    Same copies agents → Closes sc [] s → Order sc (start copies inputs) s steps e → Finished sc e →
    EndsAs sc e (instant sc agents inputs)

abbrev pub Reduced : Type 0
Reduced =
    (sc : Score) (agents copies inputs s s' : List ℕ) (steps l : List Item) →
    Same copies agents → Closes sc [] s → Order sc (start copies inputs) s steps (left l s') → Quiet sc l s' →
    (i : ℕ) → i < length sc.agents →
    (Memᴰ (agent i) steps → Memᴰ i (instant sc agents inputs).reduced) × (Memᴰ i (instant sc agents inputs).reduced → Memᴰ (agent i) steps)
