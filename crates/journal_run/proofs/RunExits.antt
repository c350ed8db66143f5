-- The run's exits, one for each reply.
--     turned, lengths, state, misformed, runs
--     Lengths-are      the two lengths, where none is wrong
use mathlib.Core.Path.{◌≡◌, refl}
use mathlib.Core.Bool.{true, false, not}
use mathlib.Core.List.{List}
use Prim.Native.Nat.{ℕ}
use lib.Dec.{eqb}
use lib.ListN.{length}
use Rattle.laws.proofs.Booleans.{cond_true, cond_false, neither}
use Rattle.format.specs.Decode.{sizes}
use Rattle.std.proofs.Common.{Err}
use Rattle.check_verdicts.specs.declared.Fault.{Fault}
use Rattle.check_verdicts.specs.Verdicts.{verdict_number}
use Rattle.check_score.specs.Check.{verdict}
use Rattle.refusals.proofs.ByVerdict.{passed}
use Rattle.refusals.proofs.ByVerdict as stages
use Rattle.lent.specs.Lengths.{state_bytes, scratch_bytes, no_scratch}
use Rattle.lent.specs.States.{state_fault}
use Rattle.lent.proofs.Lengths.{right}
use Rattle.journal_form.specs.declared.Misform.{Misform}
use Rattle.journal_form.specs.Form.{Form, Good, form_of}
use Rattle.journal_form.specs.Refusals.{refusal_of}
use Rattle.journal_instants.specs.Instants.{input_lists}
use Rattle.journal_step.specs.Reply.{Reply}
use Rattle.refusals.specs.Refused.{Turned, Lengths, State}
use Rattle.journal_step.specs.ByForm.{by_form}
use Rattle.journal_step.proofs.ByForm.{by_form_lem, by_misform}
use Rattle.journal_run_list.specs.Run.{Ran, run_from}
use Rattle.journal_run.specs.RunCall.{Lent, lent, Exit, length_fault, kept, ended, exit, LeftBy}

module _ (score inputs : List ℕ) (l : Lent) where
  abbrev ran : Ran
  ran = run_from score l.state (length l.journal) (input_lists inputs)

  abbrev down : Fault → Exit
  down f = kept l (Turned f)

  pub turned : {f : Fault} → Err f ≡ verdict score → kept l (Turned f) ≡ exit score inputs l
  unfolding exit
  turned is = stages.turned down _ (verdict score) is

  module _ (accepted : verdict_number (verdict score) ≡ 0) where
    pub lengths : length_fault l ≡ true → kept l Lengths ≡ exit score inputs l
    unfolding exit
    lengths e = passed down (verdict score) accepted (cond_true _ e refl)

    module _ (long : length_fault l ≡ false) where
      pub state : state_fault (sizes score).agents l.state ≡ true → kept l State ≡ exit score inputs l
      unfolding exit
      state e = passed down (verdict score) accepted (cond_false _ long (cond_true _ e refl))

      module _ (lawful : state_fault (sizes score).agents l.state ≡ false) where
        formed : {e : Exit} {f : Form} → form_of false (sizes score).tokens inputs ≡ f → e ≡ by_form f (kept l) (ended l ran) → e ≡ exit score inputs l
        unfolding exit
        formed f is = passed down (verdict score) accepted (cond_false _ long (cond_false _ lawful (by_form_lem (kept l) (ended l ran) f is)))

        pub misformed : (m : Misform) → form_of false (sizes score).tokens inputs ≡ Err m → kept l (Err (refusal_of m)) ≡ exit score inputs l
        misformed m f = formed f (by_misform (kept l) (ended l ran) m)

        pub runs : form_of false (sizes score).tokens inputs ≡ Good → (st₁ journal₁ scratch₁ : List ℕ) (reply : Reply) → scratch₁ ≡ no_scratch →
            LeftBy ran l.journal st₁ journal₁ reply →
            ◌≡◌ {A = Exit} (record { lent = lent st₁ journal₁ scratch₁; reply = reply }) (exit score inputs l)
        runs good st₁ journal₁ scratch₁ reply z r = formed good (λ i. record { lent = lent (r.state_is i) (r.journal_is i) (z i); reply = r.reply_is i })

pub record Lengths-are (l : Lent) : Type 0 where
  pub state_long : length l.state ≡ state_bytes
  pub scratch_long : length l.scratch ≡ scratch_bytes

pub right_lengths : (l : Lent) → length_fault l ≡ false → Lengths-are l
right_lengths l e =
    let d = neither (not (eqb (length l.state) state_bytes)) (not (eqb (length l.scratch) scratch_bytes)) e in
    record { state_long = right (length l.state) state_bytes d.0; scratch_long = right (length l.scratch) scratch_bytes d.1 }
