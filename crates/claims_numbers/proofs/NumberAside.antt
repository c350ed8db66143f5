-- The number aside, calls do alike.
--     alike_exits      of instant calls; alike_runs, of runs
--     number_aside     the theorem
use mathlib.Core.Path.{◌≡◌, refl, sym, ap, ap₂, subst⁻¹, ◌∙◌}
use mathlib.Core.Bool.{Bool, true, false, cond, not, ◌||◌}
use mathlib.Core.List.{List, ◌++◌}
use Prim.Native.Nat.{ℕ, suc, ◌+◌, ◌*◌, ◌<◌, ◌≤◌}
use borrow.Author.Tests.{ne_eqb}
use native.Mathlib.Omega.{arith}
use lib.Dec.{eqb}
use lib.ListN.{length, drop}
use Rattle.tcc.specs.Instant.{State, answer, after}
use Rattle.format.specs.Decode.{sizes, decode}
use Rattle.std.proofs.Common.{Err}
use Rattle.check_verdicts.specs.declared.Fault.{Fault}
use Rattle.check_verdicts.specs.Verdict.{Verdict, Accepted}
use Rattle.check_verdicts.specs.Verdicts.{by_verdict}
use Rattle.check_score.specs.Check.{verdict}
use Rattle.bits.specs.Bits.{bytes_of}
use Rattle.lent.specs.Lengths.{state_bytes, map_bytes, scratch_bytes, no_scratch}
use Rattle.lent.specs.States.{state_fault, state_of, as_bytes, instant_number, last_number, at_last, SameButNumber}
use Rattle.lent.proofs.Numbered.{state_aside, fault_aside, numbered_alike}
use Rattle.lent_maps.specs.Maps.{tokens_in}
use Rattle.instant_call.specs.Reply.{Reply}
use Rattle.refusals.specs.Refused.{Turned, Lengths, State as BadState, Input, Last, Next}
use Rattle.instant_call.specs.InstantCall.{lent, Exit, token_fault, kept, cleared, answered, exit}
use Rattle.journal_form.specs.Form.{Form, Good, Bytes, Word, form_of}
use Rattle.journal_instants.specs.Instants.{input_lists}
use Rattle.journal_step.specs.Reply.{Reply as RunReply}
use Rattle.refusals.specs.Refused as reply
use Rattle.journal_step.specs.ByForm.{by_form}
use Rattle.journal_run_list.specs.Run.{run_from}
use Rattle.journal_run_list.proofs.Aside as runlist
use Rattle.journal_run.specs.RunCall.{ending}
use Rattle.journal_run.specs.RunCall as run
use Rattle.journal_check.proofs.Aside.{check_aside}
use Rattle.settings_call.specs.SettingsCall as settings-call
use Rattle.score_answer.specs.Answer.{packed}
use Rattle.score_answer.specs.Replies.{of_reply, of_run_reply, of_settings}
use Rattle.claims_numbers.specs.NumberAside.{Instants, Runs, Settings, Checks, NumberAside}

-- ---- an instant

record AlikeExits (e f : Exit) : Type 0 where
  replies : e.reply ≡ f.reply
  states : SameButNumber e.lent.state f.lent.state
  stores : e.lent.store ≡ f.lent.store
  outputs : e.lent.output ≡ f.lent.output
  scratches : e.lent.scratch ≡ f.lent.scratch

-- by one test
both : (b : Bool) {x y x' y' : Exit} → AlikeExits x x' → AlikeExits y y' → AlikeExits (cond b x y) (cond b x' y')
both true p q = p
both false p q = q

-- by the verdict
both_found : (v : Verdict) {down down' : Fault → Exit} {y y' : Exit} → ((f : Fault) → AlikeExits (down f) (down' f)) → AlikeExits y y' → AlikeExits (by_verdict v down y) (by_verdict v down' y')
both_found Accepted p q = q
both_found (Err f) p q = p f

module _ (score input store output scratch : List ℕ) where
  -- the call by what it looks at: the length, the fault, the state and the number
  abbrev exit_by : ℕ → Bool → State → Bool → List ℕ → Exit
  exit_by n fault st last s =
      let l = lent s store output scratch in
      let a = answer (decode score) st (tokens_in input) in
      by_verdict (verdict score) (λ f. kept l (Turned f))
      (cond (not (eqb n state_bytes) || not (eqb (length input) map_bytes) || not (eqb (length store) map_bytes) || not (eqb (length output) map_bytes) || not (eqb (length scratch) scratch_bytes)) (kept l Lengths)
      (cond fault (kept l BadState)
      (cond (token_fault score input) (kept l Input)
      (cond last (kept l (Last 0))
      (cond (state_fault (sizes score).agents (as_bytes (after a))) (cleared l Next) (answered (decode score) s a))))))

  module _ (s t : List ℕ) (same : SameButNumber s t) (below : instant_number s < last_number) (below' : instant_number t < last_number) where
    looked : exit score input (lent t store output scratch) ≡ exit_by (length s) (state_fault (sizes score).agents s) (state_of s) (at_last s) t
    unfolding exit
    looked =
        let early : at_last s ≡ at_last t = ne_eqb (instant_number s) last_number (λ e. omega arith) ∙ sym (ne_eqb (instant_number t) last_number (λ e. omega arith)) in
        ap₂ (λ n f. exit_by n f (state_of t) (at_last t) t) (sym same.long) (sym (fault_aside s t same.words (sizes score).agents))
        ∙ ap₂ (λ st b. exit_by (length s) (state_fault (sizes score).agents s) st b t) (sym (state_aside s t same.words)) (sym early)

    -- a refusal leaves the state
    stays : (scratch' : List ℕ) (r : Reply) → AlikeExits (kept (lent s store output scratch') r) (kept (lent t store output scratch') r)
    stays scratch' r = record { replies = refl; states = same; stores = refl; outputs = refl; scratches = refl }

    by_tests : (n : ℕ) (fault last : Bool) (st : State) → AlikeExits (exit_by n fault st last s) (exit_by n fault st last t)
    by_tests n fault last st =
        let a = answer (decode score) st (tokens_in input) in
        both_found (verdict score) (λ f. stays scratch (Turned f))
        (both (not (eqb n state_bytes) || not (eqb (length input) map_bytes) || not (eqb (length store) map_bytes) || not (eqb (length output) map_bytes) || not (eqb (length scratch) scratch_bytes)) (stays scratch Lengths)
        (both fault (stays scratch BadState)
        (both (token_fault score input) (stays scratch Input)
        (both last (stays scratch (Last 0))
        (both (state_fault (sizes score).agents (as_bytes (after a))) (stays no_scratch Next)
        (record { replies = refl; states = numbered_alike (after a) (suc (instant_number s)) (suc (instant_number t)); stores = refl; outputs = refl; scratches = refl }))))))

    alike_exits : AlikeExits (exit score input (lent s store output scratch)) (exit score input (lent t store output scratch))
    unfolding exit
    alike_exits = rw looked (by_tests (length s) (state_fault (sizes score).agents s) (at_last s) (state_of s))

instants : Instants
instants score input s t store output scratch after₁ after₂ a b same below below' c d =
    let x = alike_exits score input store output scratch s t same below below' in (
      c.answered ∙ ap (λ r. packed (of_reply r)) x.replies ∙ sym d.answered,
      subst⁻¹ (λ l. SameButNumber l.state after₂.state) c.written (subst⁻¹ (λ l. SameButNumber (exit score input (lent s store output scratch)).lent.state l.state) d.written x.states),
      ap (λ l. l.store) c.written ∙ x.stores ∙ sym (ap (λ l. l.store) d.written),
      ap (λ l. l.output) c.written ∙ x.outputs ∙ sym (ap (λ l. l.output) d.written),
      ap (λ l. l.scratch) c.written ∙ x.scratches ∙ sym (ap (λ l. l.scratch) d.written),
    )

-- ---- a run

record AlikeRuns (e f : run.Exit) : Type 0 where
  replies : e.reply ≡ f.reply
  states : SameButNumber e.lent.state f.lent.state
  journals : e.lent.journal ≡ f.lent.journal
  scratches : e.lent.scratch ≡ f.lent.scratch

both_runs : (b : Bool) {x y x' y' : run.Exit} → AlikeRuns x x' → AlikeRuns y y' → AlikeRuns (cond b x y) (cond b x' y')
both_runs true p q = p
both_runs false p q = q

both_runs_found : (v : Verdict) {down down' : Fault → run.Exit} {y y' : run.Exit} → ((f : Fault) → AlikeRuns (down f) (down' f)) → AlikeRuns y y' → AlikeRuns (by_verdict v down y) (by_verdict v down' y')
both_runs_found Accepted p q = q
both_runs_found (Err f) p q = p f

module _ (score inputs journal scratch : List ℕ) where
  -- the run by what it looks at first: the length and the fault
  abbrev run_by : ℕ → Bool → List ℕ → run.Exit
  run_by n fault s =
      let l = run.lent s journal scratch in
      by_verdict (verdict score) (λ f. run.kept l (Turned f))
      (cond (not (eqb n state_bytes) || not (eqb (length scratch) scratch_bytes)) (run.kept l reply.Lengths)
      (cond fault (run.kept l reply.State)
      (by_form (form_of false (sizes score).tokens inputs) (run.kept l) (run.ended l (run_from score s (length journal) (input_lists inputs))))))

  module _ (s t : List ℕ) (same : SameButNumber s t) (few : instant_number s + length (input_lists inputs) ≤ last_number) (few' : instant_number t + length (input_lists inputs) ≤ last_number) where
    stays_run : (r : RunReply) → AlikeRuns (run.kept (run.lent s journal scratch) r) (run.kept (run.lent t journal scratch) r)
    stays_run r = record { replies = refl; states = same; journals = refl; scratches = refl }

    ends : AlikeRuns (run.ended (run.lent s journal scratch) (run_from score s (length journal) (input_lists inputs))) (run.ended (run.lent t journal scratch) (run_from score t (length journal) (input_lists inputs)))
    ends =
        let x = runlist.run_aside score (input_lists inputs) s t same (length journal) few few' in
        record {
          replies = ap₂ ending x.stop x.instants;
          states = x.state;
          journals = ap (λ ws. bytes_of ws ++ drop (4 * length ws) journal) x.words;
          scratches = refl;
        }

    by_form_lem : (f : Form) → AlikeRuns (by_form f (run.kept (run.lent s journal scratch)) (run.ended (run.lent s journal scratch) (run_from score s (length journal) (input_lists inputs))))
        (by_form f (run.kept (run.lent t journal scratch)) (run.ended (run.lent t journal scratch) (run_from score t (length journal) (input_lists inputs))))
    by_form_lem Good = ends
    by_form_lem Bytes = stays_run reply.Bytes
    by_form_lem (Word k) = stays_run (reply.Word k)

    alike_runs : AlikeRuns (run.exit score inputs (run.lent s journal scratch)) (run.exit score inputs (run.lent t journal scratch))
    unfolding run.exit
    alike_runs = rw looked_run
        (both_runs_found (verdict score) (λ f. stays_run (Turned f))
        (both_runs (not (eqb (length s) state_bytes) || not (eqb (length scratch) scratch_bytes)) (stays_run reply.Lengths)
        (both_runs (state_fault (sizes score).agents s) (stays_run reply.State) (by_form_lem (form_of false (sizes score).tokens inputs)))))
      where
        looked_run : run.exit score inputs (run.lent t journal scratch) ≡ run_by (length s) (state_fault (sizes score).agents s) t
        looked_run = ap₂ (λ n f. run_by n f t) (sym same.long) (sym (fault_aside s t same.words (sizes score).agents))

runs : Runs
runs score inputs s t journal scratch after₁ after₂ a b same few few' c d =
    let x = alike_runs score inputs journal scratch s t same few few' in (
      c.answered ∙ ap (λ r. packed (of_run_reply r)) x.replies ∙ sym d.answered,
      subst⁻¹ (λ l. SameButNumber l.state after₂.state) c.written (subst⁻¹ (λ l. SameButNumber (run.exit score inputs (run.lent s journal scratch)).lent.state l.state) d.written x.states),
      ap (λ l. l.journal) c.written ∙ x.journals ∙ sym (ap (λ l. l.journal) d.written),
      ap (λ l. l.scratch) c.written ∙ x.scratches ∙ sym (ap (λ l. l.scratch) d.written),
    )

-- ---- settings and journal checks

counted_alike : (score s t switches : List ℕ) (k : ℕ) → SameButNumber s t → settings-call.reply score s switches k ≡ settings-call.reply score t switches k
unfolding settings-call.reply
counted_alike score s t switches k same = rw (same.long, fault_aside s t same.words (sizes score).agents, state_aside s t same.words)

number_settings : Settings
number_settings score s t switches k a b same c d = c.answered ∙ ap (λ r. packed (of_settings r)) (counted_alike score s t switches k same) ∙ sym d.answered

checks : Checks
checks score s t read lists same few few' = check_aside score lists s t same read few few'

pub number_aside : NumberAside
number_aside = (instants, runs, number_settings, checks)
