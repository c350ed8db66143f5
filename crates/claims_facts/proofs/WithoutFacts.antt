-- A score without facts is checked, played and journalled as before.
--     turned_before      each call turns the score down as it did, or goes on
--     instant_before_lem, run_before_lem, check_before_lem  so each does what it did
--     run_from_before_lem, check_from_before_lem  the instants of a run and of a journal check
--     without_facts      the theorem
use mathlib.Core.Path.{◌≡◌, refl, ap, subst, ◌∙◌}
use mathlib.Core.Bool.{true, false, cond, not, ◌&&◌}
use mathlib.Core.List.{List, [], ◌∷◌}
use Prim.Native.Nat.{ℕ, suc, ◌-◌, ◌*◌}
use lib.Dec.{eqb}
use lib.ListN.{length}
use Rattle.tcc.specs.Instant.{answer, after}
use Rattle.words.specs.Word.{words}
use Rattle.format.specs.Decode.{sizes}
use Rattle.std.proofs.Common.{Err}
use Rattle.check_verdicts.specs.declared.Fault.{Fault}
use Rattle.check_verdicts.specs.Verdict.{Verdict, Accepted}
use Rattle.check_verdicts.specs.Verdicts.{verdict_number, by_verdict}
use Rattle.check_score.specs.Check.{verdict}
use Rattle.lent.specs.Lengths.{scratch_bytes, no_scratch}
use Rattle.lent.specs.States.{state_fault, state_of, as_bytes, start_bytes, next_bytes, at_last}
use Rattle.lent_maps.specs.Maps.{tokens_in}
use Rattle.instant_call.specs.InstantCall.{Lent, length_fault, token_fault, kept, cleared, answered, exit}
use Rattle.refusals.specs.Refused.{Turned, Lengths, State as NoState, Input, Differs, Last, Next}
use Rattle.journal_form.specs.Form.{form_of}
use Rattle.journal_instants.specs.Instants.{instants_in, inputs_in, input_lists}
use Rattle.journal_words.specs.History.{entry}
use Rattle.journal_step.specs.AnswerIn.{answer_in}
use Rattle.journal_step.specs.ByForm.{by_form}
use Rattle.journal_run_list.specs.Run.{stop_at, unless_stopped, run_from}
use Rattle.journal_run.specs.RunCall as run
use Rattle.journal_check.specs.Check.{same, check_from}
use Rattle.journal_check.specs.JournalCheckCall as journalcheck
use Rattle.score_answer.specs.Answer.{packed}
use Rattle.score_answer.specs.Replies.{of_verdict, of_reply, of_run_reply}
use Rattle.claims_facts.specs.WithoutFacts.{decode_before, verdict_before, instant_before, run_from_before, run_before, check_from_before, check_before, NoFact, CallsBefore, WithoutFacts}
use Rattle.claims_facts.proofs.Before.{word_before, verdict_before_lem, score_before}

module _ (score : List ℕ) (no-fact : NoFact score) where
  turned_before : {E : Type 0} (down : Fault → E) (on on' : E) → (verdict_number (verdict score) ≡ 0 → on ≡ on') → by_verdict (verdict score) down on ≡ by_verdict (verdict_before score) down on'
  turned_before down on on' same-on = subst (λ v. by_verdict (verdict score) down on ≡ by_verdict v down on') (verdict_before_lem score no-fact) (go (verdict score) same-on)
    where
      go : (v : Verdict) → (verdict_number v ≡ 0 → on ≡ on') → by_verdict v down on ≡ by_verdict v down on'
      go Accepted h = h refl
      go (Err f) h = refl

  instant_before_lem : (input : List ℕ) (l : Lent) → exit score input l ≡ instant_before score input l
  unfolding exit
  instant_before_lem input l = turned_before (λ f. kept l (Turned f)) _ _ (λ accepted.
      ap (λ sc. let a = answer sc (state_of l.state) (tokens_in input) in
      cond (length_fault input l) (kept l Lengths)
      (cond (state_fault (sizes score).agents l.state) (kept l NoState)
      (cond (token_fault score input) (kept l Input)
      (cond (at_last l.state) (kept l (Last 0))
      (cond (state_fault (sizes score).agents (as_bytes (after a))) (cleared l Next) (answered sc l.state a))))))
      (score_before score no-fact accepted))

  module _ (accepted : verdict_number (verdict score) ≡ 0) where
    run_from_before_lem : (l : List (List ℕ)) (state : List ℕ) (room : ℕ) → run_from score state room l ≡ run_from_before score state room l
    unfolding run_from answer_in
    run_from_before_lem [] state room = refl
    run_from_before_lem (inputs ∷ more) state room =
        let a = answer (decode_before score) (state_of state) inputs in
        let e = entry (decode_before score) inputs a in
        ap (λ sc. let b = answer sc (state_of state) inputs in let f = entry sc inputs b in
        unless_stopped (stop_at score (at_last state) b (4 * length f) room) state f (run_from score (next_bytes state b) (room - 4 * length f) more))
        (score_before score no-fact accepted)
        ∙ ap (unless_stopped (stop_at score (at_last state) a (4 * length e) room) state e) (run_from_before_lem more (next_bytes state a) (room - 4 * length e))

    check_from_before_lem : (l : List (List ℕ)) (state : List ℕ) (read : ℕ) → check_from score state read l ≡ check_from_before score state read l
    unfolding check_from answer_in
    check_from_before_lem [] state read = refl
    check_from_before_lem (ws ∷ more) state read =
        let a = answer (decode_before score) (state_of state) (inputs_in ws) in
        ap (λ sc. let b = answer sc (state_of state) (inputs_in ws) in
        cond (state_fault (sizes score).agents (as_bytes (after b))) Next
        (cond (not (at_last state) && same ws (entry sc (inputs_in ws) b)) (check_from score (next_bytes state b) (suc read) more) (Differs read)))
        (score_before score no-fact accepted)
        ∙ ap (λ r. cond (state_fault (sizes score).agents (as_bytes (after a))) Next (cond (not (at_last state) && same ws (entry (decode_before score) (inputs_in ws) a)) r (Differs read)))
        (check_from_before_lem more (next_bytes state a) (suc read))

  run_before_lem : (inputs : List ℕ) (l : run.Lent) → run.exit score inputs l ≡ run_before score inputs l
  unfolding run.exit
  run_before_lem inputs l = turned_before (λ f. run.kept l (Turned f)) _ _ (λ accepted.
      ap (λ r. cond (run.length_fault l) (run.kept l Lengths)
      (cond (state_fault (sizes score).agents l.state) (run.kept l NoState)
      (by_form (form_of false (sizes score).tokens inputs) (run.kept l) (run.ended l r))))
      (run_from_before_lem accepted (input_lists inputs) l.state (length l.journal)))

  check_before_lem : (journal l : List ℕ) → journalcheck.exit score journal l ≡ check_before score journal l
  unfolding journalcheck.exit
  check_before_lem journal l = turned_before (λ f. journalcheck.left l (Turned f)) _ _ (λ accepted.
      ap (λ r. cond (not (eqb (length l) scratch_bytes)) (journalcheck.left l Lengths)
      (by_form (form_of true (sizes score).tokens journal) (journalcheck.left l) (journalcheck.left no_scratch r)))
      (ap (λ sc. check_from score (start_bytes sc) 0 (instants_in (words journal))) (score_before score no-fact accepted)
      ∙ check_from_before_lem accepted (instants_in (words journal)) (start_bytes (decode_before score)) 0))

  calls_before : CallsBefore score
  calls_before = record {
    verdict_is = verdict_before_lem score no-fact;
    score_is = λ e. score_before score no-fact (ap verdict_number (verdict_before_lem score no-fact) ∙ e);
    checks = λ a c. c.answered ∙ ap (λ v. packed (of_verdict v)) (verdict_before_lem score no-fact);
    instants = λ input l m a c. (c.written ∙ ap (λ x. x.lent) (instant_before_lem input l), c.answered ∙ ap (λ x. packed (of_reply x.reply)) (instant_before_lem input l));
    runs = λ inputs l m a c. (c.written ∙ ap (λ x. x.lent) (run_before_lem inputs l), c.answered ∙ ap (λ x. packed (of_run_reply x.reply)) (run_before_lem inputs l));
    journals = λ journal l m a c. (c.written ∙ ap (λ x. x.scratch) (check_before_lem journal l), c.answered ∙ ap (λ x. packed (of_run_reply x.reply)) (check_before_lem journal l));
  }

pub without_facts : WithoutFacts
without_facts = (word_before, calls_before)
