-- The journal check's exits, one for each reply.
--     turned, lengths, misformed, read
use mathlib.Core.Path.{◌≡◌, refl, ap}
use mathlib.Core.Bool.{true, not}
use mathlib.Core.List.{List}
use Prim.Native.Nat.{ℕ}
use borrow.Author.Tests.{eq-eqb, ne_eqb}
use lib.ListN.{length}
use Rattle.laws.proofs.Booleans.{cond_true, cond_false}
use Rattle.format.specs.Decode.{sizes}
use Rattle.std.proofs.Common.{Err}
use Rattle.check_verdicts.specs.declared.Fault.{Fault}
use Rattle.check_verdicts.specs.Verdicts.{verdict_number}
use Rattle.check_score.specs.Check.{verdict}
use Rattle.refusals.proofs.ByVerdict.{passed}
use Rattle.refusals.proofs.ByVerdict as stages
use Rattle.lent.specs.Lengths.{scratch_bytes, no_scratch}
use Rattle.journal_form.specs.declared.Misform.{Misform}
use Rattle.journal_form.specs.Form.{Form, Good, form_of}
use Rattle.journal_form.specs.Refusals.{refusal_of}
use Rattle.journal_step.specs.Reply.{Reply}
use Rattle.refusals.specs.Refused.{Turned, Lengths}
use Rattle.journal_step.specs.ByForm.{by_form}
use Rattle.journal_step.proofs.ByForm.{by_form_lem, by_misform}
use Rattle.journal_check.specs.JournalCheckCall.{Exit, left, checked, exit}

module _ (score journal scratch : List ℕ) where
  abbrev down : Fault → Exit
  down f = left scratch (Turned f)

  pub turned : {f : Fault} → Err f ≡ verdict score → left scratch (Turned f) ≡ exit score journal scratch
  unfolding exit
  turned is = stages.turned down _ (verdict score) is

  module _ (accepted : verdict_number (verdict score) ≡ 0) where
    pub lengths : (length scratch ≡ scratch_bytes → ⊥) → left scratch Lengths ≡ exit score journal scratch
    unfolding exit
    lengths n = passed down (verdict score) accepted (cond_true _ (ap not (ne_eqb (length scratch) scratch_bytes n)) refl)

    module _ (long : length scratch ≡ scratch_bytes) where
      formed : {e : Exit} {f : Form} → form_of true (sizes score).tokens journal ≡ f → e ≡ by_form f (left scratch) (left no_scratch (checked score journal)) → e ≡ exit score journal scratch
      unfolding exit
      formed f is = passed down (verdict score) accepted (cond_false _ (ap not (eq-eqb (length scratch) scratch_bytes long)) (by_form_lem (left scratch) (left no_scratch (checked score journal)) f is))

      pub misformed : (m : Misform) → form_of true (sizes score).tokens journal ≡ Err m → left scratch (Err (refusal_of m)) ≡ exit score journal scratch
      misformed m f = formed f (by_misform (left scratch) (left no_scratch (checked score journal)) m)

      pub read : form_of true (sizes score).tokens journal ≡ Good → {scratch' : List ℕ} {reply : Reply} → scratch' ≡ no_scratch → reply ≡ checked score journal →
          ◌≡◌ {A = Exit} (record { scratch = scratch'; reply = reply }) (exit score journal scratch)
      read good z r = formed good (λ i. left (z i) (r i))
