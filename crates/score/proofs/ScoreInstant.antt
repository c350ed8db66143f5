-- The answers of score_instant.
--     one_exit         the contract settles the buffers and the number returned
--     fits             every reply has room in an answer
--     called_fits      so has what an instant call replies
--     read             a caller reads the reply's number, value, status and count
--     one_answer       two calls that return the same number replied the same
use mathlib.Core.Path.{◌≡◌, sym, ap, ap₂, subst⁻¹, ◌∙◌}
use mathlib.Core.Bool.{Bool, true, false, cond}
use mathlib.Core.List.{List}
use Prim.Native.Nat.{ℕ, ◌≤◌}
use native.Mathlib.Omega.{arith}
use lib.ListN.{length, length-map, length-take}
use Rattle.std.proofs.Common.{Ok, Err}
use Rattle.laws.specs.Sets.{below, keep, any}
use Rattle.laws.proofs.Booleans.{either}
use Rattle.laws.proofs.Sets.{below_length, keep_few}
use Rattle.tcc.specs.Score.{Score, agent_at}
use Rattle.tcc.specs.Instant.{State as Between, running, aborted, Answer, count, aborted_answer, quiet_answer, live_in, held_in, is_abort, reached, instant, answer, after}
use Rattle.tcc.proofs.Status.{answer_status}
use Rattle.format.specs.Decode.{sizes, decode}
use Rattle.format.proofs.Decode.{sizes_few}
use Rattle.check_score.specs.Check.{verdict}
use Rattle.lent.specs.States.{state_fault, state_of, as_bytes, at_last}
use Rattle.lent_maps.specs.Maps.{tokens_in}
use Rattle.refusals.proofs.ByVerdict.{by_fault}
use Rattle.instant_call.specs.Reply.{Reply as Replied}
use Rattle.instant_call.specs.InstantCall.{Lent, Exit, length_fault, token_fault, exit, InstantCall}
use Rattle.score_answer.specs.Answer.{number_of, value_of, status_of, count_of, settled, Fits, Reads}
use Rattle.score_answer.specs.Replies.{of_reply}
use Rattle.score_answer.proofs.Answer.{exact}
use Rattle.score_answer.proofs.Refusals.{refusal_numbered, refusal_settled}
use Rattle.score.specs.ScoreInstant.{ScoreInstant, OneExit, OneAnswer}
use Rattle.score.proofs.CheckCall.{turned_fits}

pub one_exit : OneExit
one_exit score input before after₁ after₂ a b p q = (p.written ∙ sym q.written, p.answered ∙ sym q.answered)

-- no more agents are reduced than the score has
record Bounded (sc : Score) (a : Answer) : Type 0 where
  count : count a ≤ length sc.agents

keep_below : (f : ℕ → Bool) (n : ℕ) → length (keep f (below n)) ≤ n
keep_below f n = omega (arith, keep_few f (below n), below_length n)

either_bounded : (sc : Score) (b : Bool) (store lives : List ℕ) → Bounded sc (cond b aborted_answer (quiet_answer sc store lives))
either_bounded sc true store lives = record { count = omega arith }
either_bounded sc false store lives = record { count = keep_below _ (length sc.agents) }

answer_bounded : (sc : Score) (st : Between) (inputs : List ℕ) → Bounded sc (answer sc st inputs)
unfolding answer instant
answer_bounded sc (running agents) inputs =
    let facts = reached sc agents inputs in
    either_bounded sc (any (λ i. is_abort (agent_at sc i)) (live_in facts)) (held_in facts) (live_in facts)
answer_bounded sc aborted inputs = record { count = omega arith }

agents_few : (s : List ℕ) → length (decode s).agents ≤ 1024
unfolding decode
agents_few s = simp (length-map, length-take) (omega (arith, sizes_few s))

-- what a call replies has room
record Fitting (e : Exit) : Type 0 where
  room : Fits (of_reply e.reply)

answered_fits : (score : List ℕ) (st : Between) (inputs : List ℕ) → let a = answer (decode score) st inputs in Fits (settled a.status (count a))
answered_fits score st inputs =
    let sc = decode score in
    (omega (arith, answer_status sc st inputs), omega (arith, (answer_bounded sc st inputs).count, agents_few score))

exit_fits : (score given : List ℕ) (l : Lent) → Fitting (exit score given l)
unfolding exit
exit_fits score given l =
    let a = answer (decode score) (state_of l.state) (tokens_in given) in
    by_fault Fitting (verdict score) (λ f e. record { room = turned_fits score f e })
    (λ accepted. either Fitting (length_fault given l) (record { room = omega arith })
    (either Fitting (state_fault (sizes score).agents l.state) (record { room = omega arith })
    (either Fitting (token_fault score given) (record { room = omega arith })
    (either Fitting (at_last l.state) (record { room = omega arith })
    (either Fitting (state_fault (sizes score).agents (as_bytes (after a))) (record { room = omega arith })
    (record { room = answered_fits score (state_of l.state) (tokens_in given) }))))))

pub fits : (score given : List ℕ) (l : Lent) → Fits (of_reply (exit score given l).reply)
fits score given l = (exit_fits score given l).room

-- of what an instant call ensures
module _ {score given : List ℕ} {l m : Lent} {r : Replied} (called : InstantCall score given l m r) where
  pub called_fits : Fits (of_reply r)
  called_fits = subst⁻¹ (λ (x : Replied). Fits (of_reply x)) (ap (λ (e : Exit). e.reply) called.exits) (fits score given l)

pub read : (score given : List ℕ) (l m : Lent) (a : ℕ) → ScoreInstant score given l m a → Reads a (of_reply (exit score given l).reply)
read score given l m a c = rw c.answered (exact (of_reply (exit score given l).reply) (fits score given l))

reply_settled : (r t : Replied) → number_of (of_reply r) ≡ number_of (of_reply t) → value_of (of_reply r) ≡ value_of (of_reply t) →
    status_of (of_reply r) ≡ status_of (of_reply t) → count_of (of_reply r) ≡ count_of (of_reply t) → r ≡ t
reply_settled (Ok s) (Ok u) n v st c = ap₂ (λ x y. Ok (record { status = x; count = y })) st c
reply_settled (Ok s) (Err u) n v st c = absurd (refusal_numbered u (sym n))
reply_settled (Err r) (Ok u) n v st c = absurd (refusal_numbered r n)
reply_settled (Err r) (Err u) n v st c = ap Err (refusal_settled r u n v)

pub one_answer : OneAnswer
one_answer score₁ input₁ score₂ input₂ before₁ after₁ before₂ after₂ a p q =
    let x = read score₁ input₁ before₁ after₁ a p in
    let y = read score₂ input₂ before₂ after₂ a q in
    reply_settled (exit score₁ input₁ before₁).reply (exit score₂ input₂ before₂).reply (sym x.number ∙ y.number) (sym x.value ∙ y.value) (sym x.status ∙ y.status) (sym x.count ∙ y.count)
