-- The exits of a run.
--     Rises                the inputs of each instant of a list rise and are the score's tokens
--     Fit                  what the tests of 1 to 9, 12 and 13 leave: the score, the lengths, the state and the list are right
--     Outcome              a refusal by a number that is neither 0, 11, 15 nor 18, which leaves all as it was; or the instants
--                          up to the end, to the last number or to the first that has no room
--     outcome              there is no other exit
use mathlib.Core.Path.{◌≡◌, refl, sym, subst, ◌∙◌}
use mathlib.Core.Bool.{Bool, true, false, cond, not, ◌||◌}
use mathlib.Core.List.{List, [], ◌∷◌, Memᴰ}
use Prim.Native.Nat.{ℕ, suc, ◌*◌, ◌-◌}
use native.Mathlib.Omega.{arith}
use borrow.Author.Tests.{eqb-true, not-false}
use lib.Dec.{eqb, leb}
use lib.ListN.{length}
use Rattle.laws.proofs.Booleans.{true_is_false, by_test}
use Rattle.tcc.specs.Instant.{Answer, after}
use Rattle.format.specs.Decode.{sizes, decode}
use Rattle.format.proofs.Decode.{decode_tokens}
use Rattle.std.proofs.Common.{Err}
use Rattle.check_verdicts.specs.declared.Fault.{Fault}
use Rattle.check_verdicts.specs.Verdicts.{verdict_number, verdict_value}
use Rattle.check_verdicts.proofs.Verdicts.{number_few}
use Rattle.check_score.specs.Check as check
use Rattle.refusals.specs.declared.Refusal.{Refusal}
use Rattle.refusals.proofs.ByVerdict.{by_fault}
use Rattle.lent.specs.Lengths.{state_bytes, scratch_bytes}
use Rattle.lent.specs.States.{state_fault, as_bytes, instant_number, next_bytes, at_last}
use Rattle.lent.proofs.Numbered.{numbered_fault}
use Rattle.journal_form.specs.Form.{Form, Good, Bytes, Word, form_of}
use Rattle.journal_instants.specs.Instants.{input_lists}
use Rattle.journal_words.specs.History.{entry, RisingBelow}
use Rattle.journal_words.proofs.Forms.{good_inputs}
use Rattle.journal_step.specs.Reply.{Reply}
use Rattle.refusals.specs.Refused.{Turned, Lengths, State, Bytes as NoWords, Word as Against}
use Rattle.journal_step.specs.AnswerIn.{answer_in}
use Rattle.journal_step.specs.ByForm.{by_form}
use Rattle.journal_run_list.specs.Run.{Not, Next, Last, Room, stop_at, Ran, unless_stopped, run_from}
use Rattle.journal_run.specs.RunCall.{Lent, Exit, length_fault, kept, ended, exit}
use Rattle.score_answer.specs.Answer.{number_of}
use Rattle.score_answer.specs.Replies.{of_run_reply}
use Rattle.score_answer.proofs.Replies.{reply_number}
use Rattle.score_answer.proofs.Refusals.{refusal_numbered}
use Rattle.claims_demands.proofs.Accepted.{given, next_faultless}

abbrev pub Rises : List ℕ → List (List ℕ) → Type 0
Rises score lists = (l : List ℕ) → Memᴰ l lists → RisingBelow (decode score).tokens l

pub record Fit (score inputs : List ℕ) (l : Lent) : Type 0 where
  pub accepted : verdict_number (check.verdict score) ≡ 0
  pub long : length l.state ≡ state_bytes
  pub faultless : state_fault (sizes score).agents l.state ≡ false
  pub rising : Rises score (input_lists inputs)

abbrev pub ran_on : List ℕ → List ℕ → Lent → Ran
ran_on score inputs l = run_from score l.state (length l.journal) (input_lists inputs)

pub data Outcome (score inputs : List ℕ) (l : Lent) : Exit → Type 0 where
  refuses : (r : Reply) → (number_of (of_run_reply r) ≡ 0 → ⊥) → (number_of (of_run_reply r) ≡ 11 → ⊥) → (number_of (of_run_reply r) ≡ 15 → ⊥) → (number_of (of_run_reply r) ≡ 18 → ⊥) → Outcome score inputs l (kept l r)
  runs : Fit score inputs l → ((ran_on score inputs l).stop ≡ Next → ⊥) → Outcome score inputs l (ended l (ran_on score inputs l))

-- no instant is stopped by 11
module _ (score : List ℕ) (accepted : verdict_number (check.verdict score) ≡ 0) where
  pub never_next : (lists : List (List ℕ)) → Rises score lists → (s : List ℕ) → state_fault (sizes score).agents s ≡ false → (room : ℕ) → (run_from score s room lists).stop ≡ Next → ⊥
  unfolding run_from answer_in stop_at
  never_next [] rises s faultless room = λ e. let z : ◌≡◌ {A = ℕ} 0 1 = cc in omega arith
  never_next (inputs ∷ more) rises s faultless room =
      rw next (go (at_last s) (leb (4 * length words) room) (run_from score (next_bytes s a) (room - 4 * length words) more)
      (never_next more (λ l m. rises l (Memᴰ.tail m)) (next_bytes s a) (numbered_fault (after a) (suc (instant_number s)) (sizes score).agents ∙ next) (room - 4 * length words)))
    where
      a : Answer
      a = given score s inputs

      words : List ℕ
      words = entry (decode score) inputs a

      next : state_fault (sizes score).agents (as_bytes (after a)) ≡ false
      next = next_faultless score accepted s faultless inputs (rises inputs (Memᴰ.head refl)).below

      go : (last fits : Bool) (r : Ran) → (r.stop ≡ Next → ⊥) → (unless_stopped (cond last Last (cond fits Not Room)) s words r).stop ≡ Next → ⊥
      go true fits r h e = let z : ◌≡◌ {A = ℕ} 0 1 = cc in omega arith
      go false true r h e = h e
      go false false r h e = let z : ◌≡◌ {A = ℕ} 0 1 = cc in omega arith

first_false : (a b : Bool) → (a || b) ≡ false → a ≡ false
first_false true b e = absurd (true_is_false refl e)
first_false false b e = refl

module _ (score inputs : List ℕ) (l : Lent) where
  turned_down : (f : Fault) → Outcome score inputs l (kept l (Turned f))
  turned_down f =
      let few = number_few (Err f) in
      let m = reply_number (verdict_number (Err f)) (verdict_value (Err f)) in
      refuses (Turned f) (refusal_numbered (Refusal.Score f)) (λ e. omega (arith, few, m)) (λ e. omega (arith, few, m)) (λ e. omega (arith, few, m))

  formed : (f : Form) → form_of false (sizes score).tokens inputs ≡ f → (f ≡ Good → Outcome score inputs l (ended l (ran_on score inputs l))) → Outcome score inputs l (by_form f (kept l) (ended l (ran_on score inputs l)))
  formed Good e good = good refl
  formed Bytes e good = refuses NoWords (λ z. omega arith) (λ z. omega arith) (λ z. omega arith) (λ z. omega arith)
  formed (Word k) e good = refuses (Against k) (λ z. omega arith) (λ z. omega arith) (λ z. omega arith) (λ z. omega arith)

  pub outcome : Outcome score inputs l (exit score inputs l)
  unfolding exit
  outcome =
      by_fault (Outcome score inputs l) (check.verdict score) (λ f e. turned_down f)
      (λ accepted. by_test (Outcome score inputs l) (length_fault l) (λ e. refuses Lengths (λ z. omega arith) (λ z. omega arith) (λ z. omega arith) (λ z. omega arith))
      (λ right. let long = eqb-true (length l.state) state_bytes (not-false (eqb (length l.state) state_bytes) (first_false (not (eqb (length l.state) state_bytes)) (not (eqb (length l.scratch) scratch_bytes)) right)) in
      by_test (Outcome score inputs l) (state_fault (sizes score).agents l.state) (λ e. refuses State (λ z. omega arith) (λ z. omega arith) (λ z. omega arith) (λ z. omega arith))
      (λ faultless. formed (form_of false (sizes score).tokens inputs) refl
      (λ good. let rising : Rises score (input_lists inputs) = λ x m. subst (λ t. RisingBelow t x) (sym (decode_tokens score)) (good_inputs false (sizes score).tokens inputs good x m) in
      runs (record { accepted = accepted; long = long; faultless = faultless; rising = rising }) (never_next score accepted (input_lists inputs) rising l.state faultless (length l.journal))))))
