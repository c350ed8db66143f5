-- The count of an accepted instant, by every finished order.
--     count_is             it is the definition's
--     reduced_rising       the definition's agents reduced stand in rising order
--     ticks_are            bytes that have the bits of an order's agents have those of the definition's
--     count_of_orders      so they have as many as the count says
use mathlib.Core.Path.{◌≡◌, refl, sym, ap, subst, ◌∙◌}
use mathlib.Core.Bool.{Bool, false, ◌&&◌}
use mathlib.Core.List.{List, [], Memᴰ}
use Prim.Native.Nat.{ℕ, ◌/◌, ◌%◌, ◌<◌, ◌≤◌}
use native.Mathlib.Omega.{arith}
use lib.ListN.{length, get_or}
use Rattle.laws.specs.Sets.{below, keep, any, has}
use Rattle.laws.proofs.Booleans.{either}
use Rattle.laws.proofs.Counted.{kept_beyond}
use Rattle.laws.proofs.Sets.{on_keep, keep_none, keep_agrees, not_has, has_same, below_lt, same_refl}
use Rattle.tcc.specs.Score.{Score, agent_at}
use Rattle.tcc.specs.Store.{Closes}
use Rattle.tcc.specs.Order.{Item, End, aborted, left, Order, Quiet, Finished, start}
use Rattle.tcc.specs.Instant.{Answer, State, running, count, reducible, is_abort, live_in, held_in, reached, instant, answer}
use Rattle.tcc.proofs.Confluence.{confluence, reduced}
use Rattle.format.specs.Decode.{decode}
use Rattle.bits.specs.Bits.{bit_at}
use Rattle.bits.proofs.Filled.{has_kept}
use Rattle.lent.specs.States.{agents_in}
use Rattle.lent.specs.Scratch.{reduced_in}
use Rattle.lent_maps.specs.Maps.{tokens_in}
use Rattle.instant_call.specs.InstantCall.{Lent, Exit, exit}
use Rattle.score_answer.specs.Answer.{number_of, count_of, number_in, count_in}
use Rattle.score_answer.specs.Replies.{of_reply}
use Rattle.score.specs.ScoreInstant.{ScoreInstant}
use Rattle.score.proofs.ScoreInstant.{read}
use Rattle.claims_demands.specs.CountOfOrders.{Ticks, Counts, CountOfOrders}
use Rattle.claims_demands.proofs.Accepted.{given, lawful}
use Rattle.claims_demands.proofs.Instants.{accepted_instant}
use Rattle.claims_demands.proofs.InstantExit.{Outcome, refuses, answers, outcome}

module _ (score input : List ℕ) (l m : Lent) (a : ℕ) (c : ScoreInstant score input l m a) (n : number_in a ≡ 0) where
  count_is : count_in a ≡ count (given score l.state (tokens_in input))
  count_is = go (exit score input l) refl (outcome score input l)
    where
      go : (e : Exit) → exit score input l ≡ e → Outcome score input l e → count_in a ≡ count (given score l.state (tokens_in input))
      go e q (refuses r not-zero not_eleven) = absurd (not-zero (sym ((read score input l m a c).number ∙ ap (λ x. number_of (of_reply x.reply)) q) ∙ n))
      go e q (answers f) = (read score input l m a c).count ∙ ap (λ x. count_of (of_reply x.reply)) q

running_answer : (sc : Score) (inputs : List ℕ) {st : State} {agents : List ℕ} → st ≡ running agents → answer sc st inputs ≡ instant sc agents inputs
unfolding answer
running_answer sc inputs e = ap (λ x. answer sc x inputs) e

-- agents reduced that stand in rising order
abbrev InOrder : Score → Answer → Type 0
InOrder sc a = a.reduced ≡ keep (λ i. has i a.reduced) (below (length sc.agents))

kept_rising : (f : ℕ → Bool) (n : ℕ) → keep f (below n) ≡ keep (λ i. has i (keep f (below n))) (below n)
kept_rising f n = keep_agrees f (λ i. has i (keep f (below n))) (below n) (λ i k. sym (has_kept f n i (below_lt n i k)))

module _ (sc : Score) (agents inputs : List ℕ) where
  reduced_rising : InOrder sc (instant sc agents inputs)
  unfolding instant
  reduced_rising = either (InOrder sc) (any (λ i. is_abort (agent_at sc i)) (live_in (reached sc agents inputs)))
      (sym (keep_none (λ i. false) (below (length sc.agents)) (λ i k. refl)))
      (kept_rising (λ i. has i (live_in (reached sc agents inputs)) && reducible (held_in (reached sc agents inputs)) (agent_at sc i)) (length sc.agents))

  module _ (few : length sc.agents ≤ 1024) (s s' bytes : List ℕ) (steps l : List Item) (closes : Closes sc [] s) (order : Order sc (start agents inputs) s steps (left l s')) (quiet : Quiet sc l s') (ticks : Ticks sc steps bytes) where
    abbrev those : List ℕ
    those = (instant sc agents inputs).reduced

    known : (i : ℕ) → Memᴰ i those → i < length sc.agents
    known i m = on_keep (λ j. has j those) (below (length sc.agents)) (λ j k p. below_lt (length sc.agents) j k) i (subst (Memᴰ i) reduced_rising m)

    same : (i : ℕ) → (Memᴰ i (reduced_in bytes) → Memᴰ i those) × (Memᴰ i those → Memᴰ i (reduced_in bytes))
    same i = (
      λ m. (reduced sc agents agents inputs s s' steps l (same_refl agents) closes order quiet i (ticks.known i m)).0 (ticks.went i m),
      λ m. ticks.all i (known i m) ((reduced sc agents agents inputs s s' steps l (same_refl agents) closes order quiet i (known i m)).1 m),
    )

    ticks_are : reduced_in bytes ≡ those
    unfolding reduced_in
    ticks_are =
        kept_rising (λ i. bit_at (get_or bytes (i / 8) 0) (i % 8)) 1024
        ∙ keep_agrees (λ i. has i (reduced_in bytes)) (λ i. has i those) (below 1024) (λ i k. has_same i same)
        ∙ kept_beyond (λ i. has i those) (length sc.agents) 1024 few (λ i h. not_has (λ m. omega (arith, known i m)))
        ∙ sym reduced_rising

pub count_of_orders : CountOfOrders
count_of_orders score input before after a call accepted runs s steps e closes order finished = go e order finished
  where
    instant_count : count_in a ≡ count (instant (decode score) (agents_in before.state) (tokens_in input))
    instant_count = count_is score input before after a call accepted ∙ ap count (running_answer (decode score) (tokens_in input) runs)

    go : (end : End) → Order (decode score) (start (agents_in before.state) (tokens_in input)) s steps end → Finished (decode score) end → Counts (decode score) steps end (count_in a)
    go aborted o f = instant_count ∙ ap count (confluence (decode score) (agents_in before.state) (agents_in before.state) (tokens_in input) s steps aborted (same_refl (agents_in before.state)) closes o f)
    go (left l s') o f = λ bytes ticks.
        instant_count
        ∙ ap length (sym (ticks_are (decode score) (agents_in before.state) (tokens_in input) (lawful score (accepted_instant call accepted).accepted).agents_at_most s s' bytes steps l closes o f ticks))
