-- The exits of an instant call.
--     Fit                  what the tests of 1 to 10 and 18 leave: the score, the lengths, the state and the input are right,
--                          and the state is not at the last number
--     Outcome              a refusal by a number that is neither 0 nor 11, which leaves all as it was; or the answer
--     outcome              there is no other exit
--     fit_answered         where all is right, the answer is the exit
use mathlib.Core.Path.{◌≡◌, refl}
use mathlib.Core.Bool.{false}
use mathlib.Core.List.{List}
use Prim.Native.Nat.{ℕ}
use native.Mathlib.Omega.{arith}
use borrow.Author.Tests.{eqb-false}
use Rattle.laws.proofs.Booleans.{true_is_false, by_test}
use Rattle.tcc.specs.Instant.{after}
use Rattle.format.specs.Decode.{sizes, decode}
use Rattle.std.proofs.Common.{Err}
use Rattle.check_verdicts.specs.declared.Fault.{Fault}
use Rattle.check_verdicts.specs.Verdicts.{verdict_number, verdict_value}
use Rattle.check_verdicts.proofs.Verdicts.{number_few}
use Rattle.check_score.specs.Check as check
use Rattle.refusals.specs.declared.Refusal.{Refusal}
use Rattle.refusals.proofs.ByVerdict.{by_fault}
use Rattle.lent.specs.States.{state_fault, as_bytes, instant_number, last_number, at_last}
use Rattle.lent_maps.specs.Maps.{tokens_in}
use Rattle.instant_call.specs.Reply.{Reply}
use Rattle.refusals.specs.Refused.{Turned, Lengths, State, Input, Last}
use Rattle.instant_call.specs.InstantCall.{Lent, Exit, length_fault, token_fault, kept, answered, exit}
use Rattle.instant_call.proofs.Exits.{settled}
use Rattle.score_answer.specs.Answer.{number_of}
use Rattle.score_answer.specs.Replies.{of_reply}
use Rattle.score_answer.proofs.Replies.{reply_number}
use Rattle.score_answer.proofs.Refusals.{refusal_numbered}
use Rattle.claims_demands.proofs.Accepted.{given, next_faultless, input_known}

pub record Fit (score input : List ℕ) (l : Lent) : Type 0 where
  pub accepted : verdict_number (check.verdict score) ≡ 0
  pub long : length_fault input l ≡ false
  pub faultless : state_fault (sizes score).agents l.state ≡ false
  pub known : token_fault score input ≡ false
  pub below : at_last l.state ≡ false

pub data Outcome (score input : List ℕ) (l : Lent) : Exit → Type 0 where
  refuses : (r : Reply) → (number_of (of_reply r) ≡ 0 → ⊥) → (number_of (of_reply r) ≡ 11 → ⊥) → Outcome score input l (kept l r)
  answers : Fit score input l → Outcome score input l (answered (decode score) l.state (given score l.state (tokens_in input)))

module _ (score input : List ℕ) (l : Lent) where
  turned_down : (f : Fault) → Outcome score input l (kept l (Turned f))
  turned_down f = refuses (Turned f) (refusal_numbered (Refusal.Score f)) (λ e. omega (arith, number_few (Err f), reply_number (verdict_number (Err f)) (verdict_value (Err f))))

  pub outcome : Outcome score input l (exit score input l)
  unfolding exit
  outcome =
      by_fault (Outcome score input l) (check.verdict score) (λ f e. turned_down f)
      (λ accepted. by_test (Outcome score input l) (length_fault input l) (λ e. refuses Lengths (λ z. omega arith) (λ z. omega arith))
      (λ long. by_test (Outcome score input l) (state_fault (sizes score).agents l.state) (λ e. refuses State (λ z. omega arith) (λ z. omega arith))
      (λ faultless. by_test (Outcome score input l) (token_fault score input) (λ e. refuses Input (λ z. omega arith) (λ z. omega arith))
      (λ known. by_test (Outcome score input l) (at_last l.state) (λ e. refuses (Last 0) (λ z. omega arith) (λ z. omega arith))
      (λ below. by_test (Outcome score input l) (state_fault (sizes score).agents (as_bytes (after (given score l.state (tokens_in input)))))
      (λ e. absurd (true_is_false e (next_faultless score accepted l.state faultless (tokens_in input) (input_known score input known))))
      (λ e. answers (record { accepted = accepted; long = long; faultless = faultless; known = known; below = below })))))))

  pub fit_answered : Fit score input l → answered (decode score) l.state (given score l.state (tokens_in input)) ≡ exit score input l
  fit_answered f =
      settled score input l f.accepted f.long f.faultless f.known refl (eqb-false (instant_number l.state) last_number f.below) (given score l.state (tokens_in input)) refl
      (next_faultless score f.accepted l.state f.faultless (tokens_in input) (input_known score input f.known))
