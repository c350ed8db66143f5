-- Determinacy along a list of instants.
--     awake_below      a multiset of known agents leaves known agents awake
--     after_running    an answer that is no abort leaves the score running
--     at_instant       what holds at an instant of a running score
--     along            what holds at the instant after a chain: the theorem
use mathlib.Core.Path.{◌≡◌, refl, sym, subst}
use mathlib.Core.List.{List, [], ◌∷◌, Memᴰ}
use Prim.Native.Nat.{ℕ}
use borrow.Author.Tests.{ne_eqb}
use Rattle.laws.specs.Sets.{Same}
use Rattle.laws.proofs.Sets.{Within, on_append}
use Rattle.tcc.specs.Score.{Score, agent_at, parts_of}
use Rattle.tcc.specs.Lawful.{Lawful, AgentsBelow}
use Rattle.tcc.specs.Order.{Item, agent, input, left, wakes, awake_next, start}
use Rattle.tcc.specs.Weight.{IsWeight}
use Rattle.tcc.specs.Instant.{Answer, running, instant, answer, after, state_after}
use Rattle.tcc.specs.Confluence.{QuietAs}
use Rattle.tcc.specs.WeightBound.{ItemsBelow}
use Rattle.tcc.specs.Chain.{Chain, none, then, AtInstant, Along}
use Rattle.tcc.specs.declared.Agent.{Agent}
use Rattle.tcc.specs.declared.Agent.TheVariants.{Skip, Abort, Tell, Parallel, When, Next, Unless, Call}
use Rattle.tcc.proofs.Confluence.{confluence}
use Rattle.tcc.proofs.Multiset.{part_below, start_below, order_below}
use Rattle.tcc.proofs.WeightBound.{weight_bound}
use Rattle.tcc.proofs.Finishes.{finishes}

wakes_parts : (a : Agent) → Within (λ b. Memᴰ b (parts_of a)) (wakes a)
wakes_parts Skip = λ b m. elim m [ ]
wakes_parts Abort = λ b m. elim m [ ]
wakes_parts (Tell t) = λ b m. elim m [ ]
wakes_parts (Parallel a b) = λ b m. elim m [ ]
wakes_parts (When t b) = λ b m. elim m [ ]
wakes_parts (Next b) = λ b m. m
wakes_parts (Unless t b) = λ b m. m
wakes_parts (Call p) = λ b m. elim m [ ]

pub after_running : (a : Answer) → (a.status ≡ 2 → ⊥) → after a ≡ running a.awake
after_running a h = rw (ne_eqb a.status 2 h)

module _ (sc : Score) (law : Lawful sc) where
  awake_below : (l : List Item) → ItemsBelow sc l → AgentsBelow sc (awake_next sc l)
  awake_below [] below = λ b m. elim m [ ]
  awake_below (agent i ∷ l) below = on_append (wakes (agent_at sc i)) (λ b m. part_below sc law i (below i (Memᴰ.head refl)) refl b (wakes_parts (agent_at sc i) b m)) (awake_below l (λ j m. below j (Memᴰ.tail m)))
  awake_below (input t ∷ l) below = awake_below l (λ j m. below j (Memᴰ.tail m))

  module _ (w : ℕ → ℕ) (is : IsWeight sc w) (inputs : List ℕ) where
    at_instant : (agents copies : List ℕ) → AgentsBelow sc agents → Same copies agents → AtInstant sc w (running agents) copies inputs
    unfolding answer
    at_instant agents copies below same =
        let known : AgentsBelow sc copies = λ i m. below i ((same i).0 m) in
        record {
          agents = agents;
          is_running = refl;
          same_agents = same;
          bounded = λ s steps e o. weight_bound sc w copies inputs s steps e law is known o;
          ends = λ s steps e c o f. confluence sc agents copies inputs s steps e same c o f;
          finishes = λ s. finishes sc (start copies inputs) s law (start_below sc copies inputs known);
        }

    along_chain : {copies awake : List ℕ} {before : List (List ℕ)} → Chain sc copies before awake → (agents : List ℕ) → AgentsBelow sc agents → Same copies agents → AtInstant sc w (state_after sc (running agents) before) awake inputs
    unfolding state_after answer
    along_chain (none {copies = copies}) agents below same = at_instant agents copies below same
    along_chain (then {copies = copies} {awake = awake} {inputs = now} {s = s} {s' = s'} {rest = rest} {steps = steps} {l = l} c o quiet chain) agents below same =
        let q : QuietAs sc l s' (instant sc agents now) = confluence sc agents copies now s steps (left l s') same c o quiet in
        let left_below : AgentsBelow sc (awake_next sc l) = awake_below l (order_below sc law o (start_below sc copies now (λ i m. below i ((same i).0 m)))) in
        subst (λ st. AtInstant sc w (state_after sc st rest) awake inputs) (sym (after_running (instant sc agents now) q.unaborted)) (along_chain chain (instant sc agents now).awake (λ i m. left_below i ((q.awake i).1 m)) q.awake)

pub along : Along
along sc w agents copies awake inputs before law is below same chain = along_chain sc law w is inputs chain agents below same
