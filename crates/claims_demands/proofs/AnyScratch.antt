-- What the scratch holds when it is lent does not matter.
--     instants, runs, journal_checks     what is seen of an exit beside the scratch hangs on the scratch's length alone
--     any_scratch      so it is of each call
use mathlib.Core.Path.{◌≡◌, refl, sym, ap, ◌∙◌}
use mathlib.Core.Bool.{Bool, true, false, cond, not, ◌||◌}
use mathlib.Core.List.{List}
use Prim.Native.Nat.{ℕ}
use lib.Dec.{eqb}
use lib.ListN.{length}
use Rattle.tcc.specs.Instant.{answer, after}
use Rattle.format.specs.Decode.{sizes, decode}
use Rattle.std.proofs.Common.{Err}
use Rattle.check_verdicts.specs.Verdict.{Verdict, Accepted}
use Rattle.check_verdicts.specs.Verdicts.{by_verdict}
use Rattle.check_score.specs.Check.{verdict}
use Rattle.lent.specs.Lengths.{state_bytes, map_bytes, scratch_bytes, no_scratch}
use Rattle.lent.specs.States.{state_fault, state_of, as_bytes, at_last}
use Rattle.lent_maps.specs.Maps.{tokens_in}
use Rattle.instant_call.specs.Reply.{Reply as InstantReply}
use Rattle.refusals.specs.Refused.{Turned, Lengths, State, Input, Last, Next}
use Rattle.instant_call.specs.InstantCall.{Lent, Exit, lent, kept, cleared, answered, token_fault, exit}
use Rattle.journal_form.specs.Form.{Form, Good, Bytes, Word, form_of}
use Rattle.journal_instants.specs.Instants.{input_lists}
use Rattle.journal_step.specs.Reply.{Reply}
use Rattle.journal_step.specs.ByForm.{by_form}
use Rattle.journal_run_list.specs.Run.{Ran, run_from}
use Rattle.journal_run.specs.RunCall as run
use Rattle.journal_check.specs.JournalCheckCall as check
use Rattle.score_answer.specs.Answer.{packed}
use Rattle.score_answer.specs.Replies.{of_reply, of_run_reply}
use Rattle.claims_demands.specs.AnyScratch.{Instants, Runs, JournalChecks, AnyScratch}

-- ---- an instant

record Seen : Type 0 where
  reply : InstantReply
  state : List ℕ
  store : List ℕ
  output : List ℕ

abbrev seen : Exit → Seen
seen e = record { reply = e.reply; state = e.lent.state; store = e.lent.store; output = e.lent.output }

-- by the verdict, and by the tests of 8, 9, 10, 18 and 11
abbrev exit_by : Verdict → Exit → Bool → Bool → Bool → Bool → Bool → Lent → Exit
exit_by found end u v w y x l =
    by_verdict found (λ f. kept l (Turned f)) (cond u (kept l Lengths) (cond v (kept l State) (cond w (kept l Input) (cond y (kept l (Last 0)) (cond x (cleared l Next) end)))))

module _ (state store output s₁ s₂ : List ℕ) where
  alike : (found : Verdict) (end : Exit) (u v w y x : Bool) → seen (exit_by found end u v w y x (lent state store output s₁)) ≡ seen (exit_by found end u v w y x (lent state store output s₂))
  alike (Err f) end u v w y x = refl
  alike Accepted end true v w y x = refl
  alike Accepted end false true w y x = refl
  alike Accepted end false false true y x = refl
  alike Accepted end false false false true x = refl
  alike Accepted end false false false false true = refl
  alike Accepted end false false false false false = refl

  same : (score input : List ℕ) → length s₁ ≡ length s₂ → seen (exit score input (lent state store output s₁)) ≡ seen (exit score input (lent state store output s₂))
  unfolding exit
  same score input e =
      let a = answer (decode score) (state_of state) (tokens_in input) in
      let end = answered (decode score) state a in
      let u : ℕ → Bool = λ n. not (eqb (length state) state_bytes) || not (eqb (length input) map_bytes) || not (eqb (length store) map_bytes) || not (eqb (length output) map_bytes) || not (eqb n scratch_bytes) in
      let v = state_fault (sizes score).agents state in
      let w = token_fault score input in
      let y = at_last state in
      let x = state_fault (sizes score).agents (as_bytes (after a)) in
      ap (λ n. seen (exit_by (verdict score) end (u n) v w y x (lent state store output s₁))) e ∙ alike (verdict score) end (u (length s₂)) v w y x

instants : Instants
instants score input state store output s₁ s₂ after₁ after₂ a b e c d =
    let p = same state store output s₁ s₂ score input e in (
      c.answered ∙ ap (λ x. packed (of_reply x.reply)) p ∙ sym d.answered,
      ap (λ x. x.state) c.written ∙ ap (λ x. x.state) p ∙ sym (ap (λ x. x.state) d.written),
      ap (λ x. x.store) c.written ∙ ap (λ x. x.store) p ∙ sym (ap (λ x. x.store) d.written),
      ap (λ x. x.output) c.written ∙ ap (λ x. x.output) p ∙ sym (ap (λ x. x.output) d.written),
    )

-- ---- a run

record SeenRun : Type 0 where
  reply : Reply
  state : List ℕ
  journal : List ℕ

abbrev seen_run : run.Exit → SeenRun
seen_run e = record { reply = e.reply; state = e.lent.state; journal = e.lent.journal }

-- by the verdict, by the tests of 8 and 9, and by the list's form
abbrev run_by : Verdict → Ran → Bool → Bool → Form → run.Lent → run.Exit
run_by found ran u v f l = by_verdict found (λ w. run.kept l (Turned w)) (cond u (run.kept l Lengths) (cond v (run.kept l State) (by_form f (run.kept l) (run.ended l ran))))

module _ (state journal s₁ s₂ : List ℕ) where
  alike_run : (found : Verdict) (ran : Ran) (u v : Bool) (f : Form) → seen_run (run_by found ran u v f (run.lent state journal s₁)) ≡ seen_run (run_by found ran u v f (run.lent state journal s₂))
  alike_run (Err w) ran u v f = refl
  alike_run Accepted ran true v f = refl
  alike_run Accepted ran false true f = refl
  alike_run Accepted ran false false Good = refl
  alike_run Accepted ran false false Bytes = refl
  alike_run Accepted ran false false (Word k) = refl

  same_run : (score inputs : List ℕ) → length s₁ ≡ length s₂ → seen_run (run.exit score inputs (run.lent state journal s₁)) ≡ seen_run (run.exit score inputs (run.lent state journal s₂))
  unfolding run.exit
  same_run score inputs e =
      let ran = run_from score state (length journal) (input_lists inputs) in
      let u : ℕ → Bool = λ n. not (eqb (length state) state_bytes) || not (eqb n scratch_bytes) in
      let v = state_fault (sizes score).agents state in
      let f = form_of false (sizes score).tokens inputs in
      ap (λ n. seen_run (run_by (verdict score) ran (u n) v f (run.lent state journal s₁))) e ∙ alike_run (verdict score) ran (u (length s₂)) v f

runs : Runs
runs score inputs state journal s₁ s₂ after₁ after₂ a b e c d =
    let p = same_run state journal s₁ s₂ score inputs e in (
      c.answered ∙ ap (λ x. packed (of_run_reply x.reply)) p ∙ sym d.answered,
      ap (λ x. x.state) c.written ∙ ap (λ x. x.state) p ∙ sym (ap (λ x. x.state) d.written),
      ap (λ x. x.journal) c.written ∙ ap (λ x. x.journal) p ∙ sym (ap (λ x. x.journal) d.written),
    )

-- ---- a journal check

-- by the verdict, by the test of 8, and by the journal's form
abbrev check_by : Verdict → Reply → Bool → Form → List ℕ → check.Exit
check_by found end u f s = by_verdict found (λ w. check.left s (Turned w)) (cond u (check.left s Lengths) (by_form f (check.left s) (check.left no_scratch end)))

alike_check : (s₁ s₂ : List ℕ) (found : Verdict) (end : Reply) (u : Bool) (f : Form) → (check_by found end u f s₁).reply ≡ (check_by found end u f s₂).reply
alike_check s₁ s₂ (Err w) end u f = refl
alike_check s₁ s₂ Accepted end true f = refl
alike_check s₁ s₂ Accepted end false Good = refl
alike_check s₁ s₂ Accepted end false Bytes = refl
alike_check s₁ s₂ Accepted end false (Word k) = refl

same_check : (score journal s₁ s₂ : List ℕ) → length s₁ ≡ length s₂ → (check.exit score journal s₁).reply ≡ (check.exit score journal s₂).reply
unfolding check.exit
same_check score journal s₁ s₂ e =
    let end = check.checked score journal in
    let f = form_of true (sizes score).tokens journal in
    ap (λ n. (check_by (verdict score) end (not (eqb n scratch_bytes)) f s₁).reply) e ∙ alike_check s₁ s₂ (verdict score) end (not (eqb (length s₂) scratch_bytes)) f

journal_checks : JournalChecks
journal_checks score journal s₁ s₂ after₁ after₂ a b e c d = c.answered ∙ ap (λ r. packed (of_run_reply r)) (same_check score journal s₁ s₂ e) ∙ sym d.answered

pub any_scratch : AnyScratch
any_scratch = (instants, runs, journal_checks)
