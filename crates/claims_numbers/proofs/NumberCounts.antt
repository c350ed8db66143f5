-- The number counts the answered instants.
--     after_number       an instant adds one
--     linked_number      so instants in a row add as many as they are
--     advances, cue_numbers, journal_number, stopped_there, number_counts     the theorem and its parts
use mathlib.Core.Path.{◌≡◌, refl, sym, ap, ◌∙◌}
use mathlib.Core.List.{List}
use Prim.Native.Nat.{ℕ, suc, ◌+◌, ◌<◌, ◌≤◌}
use borrow.Author.Tests.{eqb-true, eqb-false}
use native.Mathlib.Omega.{arith}
use lib.ListN.{length}
use Rattle.laws.proofs.Booleans.{by_test}
use Rattle.tcc.specs.Instant.{start_state, after}
use Rattle.format.specs.Decode.{sizes, decode}
use Rattle.std.proofs.Common.{Err}
use Rattle.check_verdicts.specs.Verdicts.{verdict_number, verdict_value}
use Rattle.check_verdicts.proofs.Verdicts.{number_few as verdict-few}
use Rattle.check_score.specs.Check as check
use Rattle.refusals.proofs.ByVerdict.{by_fault}
use Rattle.lent.specs.States.{state_fault, as_bytes, instant_number, last_number, at_last}
use Rattle.lent.proofs.Numbered.{number_round, next_number}
use Rattle.lent_maps.specs.Maps.{tokens_in}
use Rattle.instant_call.specs.InstantCall.{Lent, Exit, length_fault, token_fault, exit}
use Rattle.journal_instants.specs.Instants.{input_lists}
use Rattle.journal_run_list.specs.Run.{MayStop, Not, Next, Last, Room, Ran}
use Rattle.journal_run_list.proofs.Numbers.{Reaches, run_number}
use Rattle.journal_run.specs.RunCall.{ending}
use Rattle.journal_run.specs.RunCall as run
use Rattle.score_answer.specs.Answer.{number_of, value_of, number_in, value_in}
use Rattle.score_answer.specs.Replies.{of_reply, of_run_reply}
use Rattle.score_answer.proofs.Replies.{reply_number}
use Rattle.score.specs.Slice.{Slice}
use Rattle.score.specs.ScoreRun.{ScoreRun}
use Rattle.score.proofs.ScoreInstant as score-instant
use Rattle.score.proofs.ScoreRun as score-run
use Rattle.claims_demands.specs.Calls.{Answered, written}
use Rattle.claims_demands.proofs.Accepted.{given}
use Rattle.claims_demands.proofs.Instants.{IsInstant}
use Rattle.claims_demands.proofs.Linked.{Linked, none, then, linked_split}
use Rattle.claims_demands.proofs.Calls.{linked}
use Rattle.claims_demands.proofs.RunExit.{ran_on, Outcome, refuses, runs, outcome}
use Rattle.claims_demands.proofs.Runs.{Ended, refused, ran, run_ended}
use Rattle.claims_demands.proofs.JournalExact.{runs_accepted}
use Rattle.claims_numbers.specs.NumberCounts.{Advances, CueNumbers, JournalNumber, StoppedThere, NumberCounts}
use Rattle.claims_numbers.proofs.Words.{number_few}

module _ {score : List ℕ} where
  after_number : {p : Answered} → IsInstant score p → instant_number p.before ≤ last_number → (instant_number p.after ≡ suc (instant_number p.before)) × (suc (instant_number p.before) ≤ last_number)
  after_number {p} is few =
      let below : instant_number p.before ≡ last_number → ⊥ = eqb-false (instant_number p.before) last_number is.below in
      (ap (λ q. instant_number q.after) is.is ∙ next_number p.before (given score p.before p.inputs) (omega arith), omega arith)

  linked_number : {s last : List ℕ} {l : List Answered} → Linked score s l last → instant_number s ≤ last_number → (instant_number last ≡ instant_number s + length l) × (instant_number last ≤ last_number)
  linked_number none few = (omega arith, few)
  linked_number (then {s = s} {p = p} at is x) few =
      let from : instant_number p.before ≡ instant_number s = ap instant_number at in
      let next = after_number is (omega arith) in
      let rest = linked_number x (omega (arith, next.0, next.1)) in
      (omega (arith, next.0, rest.0), rest.1)

advances : Advances
advances score first _ calls answered lent turn answers = linked_number (linked turn answers) (number_few first lent)

cue_numbers : CueNumbers
cue_numbers score first _ calls earlier later p lent turn answers = (linked_number (linked_split earlier later p (linked turn answers)).1 (number_few first lent)).0

journal_number : JournalNumber
journal_number score inputs before after answer at c = (
  count,
  λ scratch scratch' checked accepted long d. let x = (runs_accepted score inputs before after answer accepted at c).1 scratch scratch' checked long d in (x.0, x.1 ∙ sym count),
)
  where
    start : instant_number before.state ≡ 0
    start = ap instant_number at ∙ number_round (start_state (decode score)) 0 (omega arith)

    go : Ended score inputs before after answer → instant_number after.state ≡ written answer
    go (refused n e) = ap (λ l. instant_number l.state) e ∙ start ∙ sym n
    go (ran f n e) =
        let r = run_number score (input_lists inputs) before.state (length before.journal) (omega (arith, start)) in
        ap (λ l. instant_number l.state) e ∙ omega (arith, r.higher, start, n)

    count : instant_number after.state ≡ written answer
    count = go (run_ended c)

-- an instant call's exit that answers 18
module _ (score input : List ℕ) (l : Lent) where
  record There (e : Exit) : Type 0 where
    at_last_lem : number_of (of_reply e.reply) ≡ 18 → instant_number l.state ≡ last_number

  there : There (exit score input l)
  unfolding exit
  there =
      by_fault There (check.verdict score) (λ f e. record { at_last_lem = λ n. absurd (omega (arith, verdict-few (Err f), reply_number (verdict_number (Err f)) (verdict_value (Err f)))) })
      (λ e. by_test There (length_fault input l) (λ e. record { at_last_lem = λ n. absurd (omega arith) })
      (λ e. by_test There (state_fault (sizes score).agents l.state) (λ e. record { at_last_lem = λ n. absurd (omega arith) })
      (λ e. by_test There (token_fault score input) (λ e. record { at_last_lem = λ n. absurd (omega arith) })
      (λ e. by_test There (at_last l.state) (λ e. record { at_last_lem = λ n. eqb-true (instant_number l.state) last_number e })
      (λ e. by_test There (state_fault (sizes score).agents (as_bytes (after (given score l.state (tokens_in input))))) (λ e. record { at_last_lem = λ n. absurd (omega arith) })
      (λ e. record { at_last_lem = λ n. absurd (omega arith) }))))))

stop_last : (n : ℕ) (stop : MayStop) → number_of (of_run_reply (ending stop n)) ≡ 18 → (stop ≡ Last) × (value_of (of_run_reply (ending stop n)) ≡ n)
stop_last n Not e = absurd (omega arith)
stop_last n Next e = absurd (omega arith)
stop_last n Last e = (refl, refl)
stop_last n Room e = absurd (omega arith)

stop_full : (n : ℕ) (stop : MayStop) → number_of (of_run_reply (ending stop n)) ≡ 15 → stop ≡ Room
stop_full n Not e = absurd (omega arith)
stop_full n Next e = absurd (omega arith)
stop_full n Last e = absurd (omega arith)
stop_full n Room e = refl

-- a run's answer that is 18 or 15
module _ (score inputs : List ℕ) (before after : run.Lent) (answer : ℕ) (lent : Slice before.state) (c : ScoreRun score inputs before after answer) where
  abbrev whole : Ran
  whole = ran_on score inputs before

  reaches : Reaches (instant_number before.state) whole
  reaches = run_number score (input_lists inputs) before.state (length before.journal) (number_few before.state lent)

  number_is : {e : run.Exit} {n : ℕ} → run.exit score inputs before ≡ e → number_in answer ≡ n → number_of (of_run_reply e.reply) ≡ n
  number_is q n = sym ((score-run.read score inputs before after answer c).number ∙ ap (λ x. number_of (of_run_reply x.reply)) q) ∙ n

  left : {e : run.Exit} → run.exit score inputs before ≡ e → instant_number after.state ≡ instant_number e.lent.state
  left q = ap (λ x. instant_number x.state) c.written ∙ ap (λ x. instant_number x.lent.state) q

  at_last_lem : (e : run.Exit) → run.exit score inputs before ≡ e → Outcome score inputs before e → number_in answer ≡ 18 →
      (instant_number after.state ≡ last_number) × (instant_number before.state + value_in answer ≡ last_number)
  at_last_lem e q (refuses r not-zero not-next not_full not_last) n = absurd (not_last (number_is q n))
  at_last_lem e q (runs f h) n =
      let end = stop_last whole.instants whole.stop (number_is q n) in
      let last = reaches.at_last_lem end.0 in
      let value : value_in answer ≡ whole.instants = (score-run.read score inputs before after answer c).value ∙ ap (λ x. value_of (of_run_reply x.reply)) q ∙ end.1 in
      (left q ∙ last, omega (arith, reaches.higher, last, value))

  before_last : (e : run.Exit) → run.exit score inputs before ≡ e → Outcome score inputs before e → number_in answer ≡ 15 → instant_number after.state < last_number
  before_last e q (refuses r not-zero not-next not_full not_last) n = absurd (not_full (number_is q n))
  before_last e q (runs f h) n = omega (arith, left q, reaches.before_last (stop_full whole.instants whole.stop (number_is q n)))

stopped_there : StoppedThere
stopped_there = (
  λ score input before after answer c n. (there score input before).at_last_lem (sym (score-instant.read score input before after answer c).number ∙ n),
  λ score inputs before after answer lent c.
      let e = run.exit score inputs before in
      (at_last_lem score inputs before after answer lent c e refl (outcome score inputs before), before_last score inputs before after answer lent c e refl (outcome score inputs before)),
)

pub number_counts : NumberCounts
number_counts = (advances, cue_numbers, journal_number, stopped_there)
