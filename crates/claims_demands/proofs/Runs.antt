-- Runs, held against instant calls, over and over.
--     run_shows            the words and the state of a run are those of the instant calls
--     all_written, none_written     the instants that a run wrote, as its answer says
--     Ended                a run was refused and left all as it was, or it ran
--     run_ended            there is nothing else
--     run_eleven           no run answers 11
--     taken_rises          the inputs of the instants that a run wrote rise
--     run_plays            so there are instant calls for them
--     run_shown            and the run leaves what they show
use mathlib.Core.Path.{◌≡◌, refl, sym, ap, ap₂, subst, ◌∙◌}
use mathlib.Core.List.{List, [], ◌∷◌, ◌++◌, Memᴰ}
use Prim.Native.Nat.{ℕ, zero, suc, ◌*◌, ◌-◌}
use native.Mathlib.Omega.{arith}
use borrow.Author.Tests.{ne_eqb}
use lib.ListN.{length, take, drop}
use Rattle.laws.proofs.Sets.{on_cons}
use Rattle.tcc.specs.Instant.{Answer}
use Rattle.format.specs.Decode.{decode}
use Rattle.bits.specs.Bits.{bytes_of}
use Rattle.lent.specs.States.{next_bytes, at_last}
use Rattle.journal_instants.specs.Instants.{input_lists}
use Rattle.journal_words.specs.History.{entry}
use Rattle.journal_step.specs.AnswerIn.{answer_in}
use Rattle.journal_run_list.specs.Run.{MayStop, Not, Next, Last, Room, stop_at, Ran, unless_stopped, run_from}
use Rattle.journal_run.specs.RunCall.{ending, ended}
use Rattle.journal_run.specs.RunCall as run
use Rattle.score_answer.specs.Answer.{number_of, value_of, number_in, value_in}
use Rattle.score_answer.specs.Replies.{of_run_reply}
use Rattle.score.specs.ScoreRun.{ScoreRun}
use Rattle.score.proofs.ScoreRun.{read}
use Rattle.claims_demands.specs.Calls.{Answered, written, Plays, none, then}
use Rattle.claims_demands.specs.Determinacy.{shown_by, Shows}
use Rattle.claims_demands.proofs.Accepted.{given}
use Rattle.claims_demands.proofs.Instants.{instant_shown}
use Rattle.claims_demands.proofs.RunExit.{Rises, ran_on, Outcome, refuses, runs, outcome}
use Rattle.claims_demands.proofs.RunExit as run-exit
use Rattle.claims_demands.proofs.Played.{played_instant, plays}

abbrev Shown : Ran → List Answered → List ℕ → Type 0
Shown r played last = (r.state ≡ last) × (r.words ≡ shown_by played)

module _ (score : List ℕ) where
  pub run_shows : (lists : List (List ℕ)) → Rises score lists → (s : List ℕ) (room : ℕ) {played : List Answered} {last : List ℕ} →
      Plays score s (take (run_from score s room lists).instants lists) played last → Shown (run_from score s room lists) played last
  unfolding run_from answer_in
  run_shows [] rises s _ none = (refl, refl)
  run_shows (inputs ∷ more) rises s room x =
      go (stop_at score (at_last s) a (4 * length words) room) (run_from score (next_bytes s a) (room - 4 * length words) more)
      (λ played last. run_shows more (λ l m. rises l (Memᴰ.tail m)) (next_bytes s a) (room - 4 * length words)) x
    where
      a : Answer
      a = given score s inputs

      words : List ℕ
      words = entry (decode score) inputs a

      go : (stop : MayStop) (r : Ran) {played : List Answered} {last : List ℕ} →
          ((played : List Answered) (last : List ℕ) → Plays score (next_bytes s a) (take r.instants more) played last → Shown r played last) →
          Plays score s (take (unless_stopped stop s words r).instants (inputs ∷ more)) played last → Shown (unless_stopped stop s words r) played last
      go Not r rest (then {last = last} {played = played} {before = before} {after = behind} {answer = answer} at c n y) =
          let h = played_instant score (rises inputs (Memᴰ.head refl)) c n in
          let ends : behind.state ≡ next_bytes s a = ap (λ q. q.after) h.is ∙ ap (λ t. next_bytes t (given score t inputs)) at in
          let shown = rest played last (subst (λ t. Plays score t (take r.instants more) played last) ends y) in
          (shown.0, ap₂ ◌++◌ (sym (instant_shown h ∙ ap (λ t. entry (decode score) inputs (given score t inputs)) at)) shown.1)
      go Next r rest none = (refl, refl)
      go Last r rest none = (refl, refl)
      go Room r rest none = (refl, refl)

take_member : {A : Type 0} (n : ℕ) (l : List A) (x : A) → Memᴰ x (take n l) → Memᴰ x l
take_member zero l x m = elim m [ ]
take_member (suc n) [] x m = elim m [ ]
take_member (suc n) (y ∷ l) x m = on_cons {P = λ z. Memᴰ z (y ∷ l)} (Memᴰ.head refl) (λ z k. Memᴰ.tail (take_member n l z k)) x m

all_written : (a n : ℕ) (stop : MayStop) → (stop ≡ Next → ⊥) → number_in a ≡ number_of (of_run_reply (ending stop n)) → value_in a ≡ value_of (of_run_reply (ending stop n)) → written a ≡ n
all_written a n Not h e v = rw e v
all_written a n Next h e v = absurd (h refl)
all_written a n Last h e v = rw e v
all_written a n Room h e v = rw e v

none_written : (a : ℕ) → (number_in a ≡ 0 → ⊥) → (number_in a ≡ 15 → ⊥) → (number_in a ≡ 18 → ⊥) → written a ≡ 0
none_written a not-zero not_full not_last = rw (ne_eqb (number_in a) 0 not-zero, ne_eqb (number_in a) 15 not_full, ne_eqb (number_in a) 18 not_last)

not_eleven : (n : ℕ) (stop : MayStop) → (stop ≡ Next → ⊥) → number_of (of_run_reply (ending stop n)) ≡ 11 → ⊥
not_eleven n Not h e = omega arith
not_eleven n Next h e = h refl
not_eleven n Last h e = omega arith
not_eleven n Room h e = omega arith

-- a run that was refused, or one that ran
pub data Ended (score inputs : List ℕ) (l m : run.Lent) (a : ℕ) : Type 0 where
  refused : written a ≡ 0 → m ≡ l → Ended score inputs l m a
  ran : run-exit.Fit score inputs l → written a ≡ (ran_on score inputs l).instants → m ≡ (ended l (ran_on score inputs l)).lent → Ended score inputs l m a

module _ {score inputs : List ℕ} {l m : run.Lent} {a : ℕ} (c : ScoreRun score inputs l m a) where
  number_is : (e : run.Exit) → run.exit score inputs l ≡ e → number_in a ≡ number_of (of_run_reply e.reply)
  number_is e q = (read score inputs l m a c).number ∙ ap (λ x. number_of (of_run_reply x.reply)) q

  value_is : (e : run.Exit) → run.exit score inputs l ≡ e → value_in a ≡ value_of (of_run_reply e.reply)
  value_is e q = (read score inputs l m a c).value ∙ ap (λ x. value_of (of_run_reply x.reply)) q

  pub run_eleven : number_in a ≡ 11 → ⊥
  run_eleven n = go (run.exit score inputs l) refl (outcome score inputs l)
    where
      go : (e : run.Exit) → run.exit score inputs l ≡ e → Outcome score inputs l e → ⊥
      go e q (refuses r not-zero not-next not_full not_last) = not-next (sym (number_is e q) ∙ n)
      go e q (runs f h) = not_eleven (ran_on score inputs l).instants (ran_on score inputs l).stop h (sym (number_is e q) ∙ n)

  pub run_ended : Ended score inputs l m a
  run_ended = go (run.exit score inputs l) refl (outcome score inputs l)
    where
      go : (e : run.Exit) → run.exit score inputs l ≡ e → Outcome score inputs l e → Ended score inputs l m a
      go e q (refuses r not-zero not-next not_full not_last) =
          refused (none_written a (λ n. not-zero (sym (number_is e q) ∙ n)) (λ n. not_full (sym (number_is e q) ∙ n)) (λ n. not_last (sym (number_is e q) ∙ n))) (c.written ∙ ap (λ x. x.lent) q)
      go e q (runs f h) = ran f (all_written a (ran_on score inputs l).instants (ran_on score inputs l).stop h (number_is e q) (value_is e q)) (c.written ∙ ap (λ x. x.lent) q)

  pub taken_rises : Rises score (take (written a) (input_lists inputs))
  taken_rises = go run_ended
    where
      go : Ended score inputs l m a → Rises score (take (written a) (input_lists inputs))
      go (refused n e) = rw n (λ x k. elim k [ ])
      go (ran f n e) = λ x k. f.rising x (take_member (written a) (input_lists inputs) x k)

  pub run_plays : (played : List Answered) × (last : List ℕ) × Plays score l.state (take (written a) (input_lists inputs)) played last
  run_plays = go run_ended
    where
      go : Ended score inputs l m a → (played : List Answered) × (last : List ℕ) × Plays score l.state (take (written a) (input_lists inputs)) played last
      go (refused n e) = rw n ([], l.state, none)
      go (ran f n e) = rw n (plays score f.accepted (input_lists inputs) f.rising l.state f.long f.faultless (length l.journal))

  -- where nothing is written, all is as it was
  unplayed : {played : List Answered} {last : List ℕ} → m ≡ l → Plays score l.state [] played last → Shows l m played last
  unfolding bytes_of
  unplayed e none = record { state = ap (λ x. x.state) e; journal = ap (λ x. x.journal) e }

  pub run_shown : {played : List Answered} {last : List ℕ} → Plays score l.state (take (written a) (input_lists inputs)) played last → Shows l m played last
  run_shown {played} {last} x = go run_ended
    where
      go : Ended score inputs l m a → Shows l m played last
      go (refused n e) = unplayed e (rw n at x)
      go (ran f n e) =
          let shown = run_shows score (input_lists inputs) f.rising l.state (length l.journal) (rw n at x) in
          record {
            state = ap (λ y. y.state) e ∙ shown.0;
            journal = ap (λ y. y.journal) e ∙ ap (λ ws. bytes_of ws ++ drop (4 * length ws) l.journal) shown.1;
          }
