-- A run whose state is the start state where the score is accepted: a refused score's state is not looked at.
--     ok_accepted, err_refused     a verdict that is `Ok` has the number 0, and no other
--     played                       the run is that from the start state
use mathlib.Core.Path.{◌≡◌, refl, sym, ap, ◌∙◌}
use mathlib.Core.List.{List}
use Prim.Native.Nat.{ℕ}
use Rattle.std.proofs.Common.{true, false, Err}
use Rattle.std.specs.Result.{is_ok}
use Rattle.laws.proofs.Booleans.{true_is_false}
use Rattle.format.specs.Decode.{decode}
use Rattle.check_verdicts.specs.Verdict.{Verdict, Accepted}
use Rattle.check_verdicts.specs.Verdicts.{verdict_number}
use Rattle.check_verdicts.proofs.Verdicts.{accepted_only}
use Rattle.check_score.specs.Check.{verdict}
use Rattle.lent.specs.States.{start_bytes}
use Rattle.lent.specs.Lengths.{no_scratch}
use Rattle.journal_run.specs.RunCall.{Lent, lent, Exit, exit}
use Rattle.journal_run.proofs.RunExits.{turned}
use Rattle.score_answer.specs.Answer.{packed, number_in}
use Rattle.score_answer.specs.Replies.{of_run_reply}
use Rattle.score.specs.ScoreRun.{ScoreRun}
use Rattle.runner_run.specs.Played.{from_start, Played}

pub ok_accepted : (v : Verdict) → is_ok v ≡ true → verdict_number v ≡ 0
ok_accepted Accepted e = refl
ok_accepted (Err f) e = absurd (true_is_false e refl)

pub err_refused : (v : Verdict) → is_ok v ≡ false → verdict_number v ≡ 0 → ⊥
err_refused v e zero = true_is_false (ap is_ok (accepted_only v zero)) e

module _ (score inputs state journal : List ℕ) (starts : verdict_number (verdict score) ≡ 0 → state ≡ start_bytes (decode score)) where
  abbrev before : Lent
  before = lent state journal no_scratch

  record Alike : Type 0 where
    journals : (exit score inputs before).lent.journal ≡ (exit score inputs (from_start score journal)).lent.journal
    replies : (exit score inputs before).reply ≡ (exit score inputs (from_start score journal)).reply

  alike : Alike
  alike = go (verdict score) refl
    where
      go : (v : Verdict) → verdict score ≡ v → Alike
      go Accepted e =
          let s = starts (ap verdict_number e) in
          record { journals = ap (λ x. (exit score inputs (lent x journal no_scratch)).lent.journal) s; replies = ap (λ x. (exit score inputs (lent x journal no_scratch)).reply) s }
      go (Err f) e =
          let left = turned score inputs before (sym e) in
          let right = turned score inputs (from_start score journal) (sym e) in
          record {
            journals = sym (ap (λ (x : Exit). x.lent.journal) left) ∙ ap (λ (x : Exit). x.lent.journal) right;
            replies = sym (ap (λ (x : Exit). x.reply) left) ∙ ap (λ (x : Exit). x.reply) right;
          }

  pub played : (after : Lent) (a : ℕ) {n : ℕ} → ScoreRun score inputs before after a → n ≡ number_in a → Played score inputs journal after.journal n
  played after a c e =
      record {
        left = (exit score inputs (from_start score journal)).lent;
        answer = a;
        ran = record { lent = c.lent; written = refl; answered = c.answered ∙ ap (λ r. packed (of_run_reply r)) alike.replies };
        journal_is = ap (λ (l : Lent). l.journal) c.written ∙ alike.journals;
        number_is = e;
      }
