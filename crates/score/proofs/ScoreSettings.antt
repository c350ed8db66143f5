-- The answers of score_settings.
--     one_exit         the contract settles the number returned
--     fits             every reply has room in an answer
--     called_fits      so has what a count of settings replies
--     read             a caller reads the reply's number, value and counts
--     one_answer       two calls that return the same number replied the same
use mathlib.Core.Path.{◌≡◌, sym, ap, subst⁻¹, ◌∙◌}
use mathlib.Core.List.{List}
use Prim.Native.Nat.{ℕ}
use native.Mathlib.Omega.{arith}
use Rattle.std.proofs.Common.{Ok, Err}
use Rattle.format.specs.Decode.{decode}
use Rattle.lent.specs.States.{state_of}
use Rattle.settings_tried.proofs.Binomial.{three_most}
use Rattle.settings_call.specs.Reply.{Reply as Replied}
use Rattle.settings_call.specs.SettingsCall.{reply, SettingsCall}
use Rattle.settings_call.proofs.Outcomes.{Outcome, turned, lengths, unlawful, switched, counted, outcome, few}
use Rattle.score_answer.specs.Answer.{number_of, value_of, settings_of, Fits, Reads}
use Rattle.score_answer.specs.Replies.{of_settings}
use Rattle.score_answer.proofs.Answer.{exact}
use Rattle.score_answer.proofs.Refusals.{refusal_numbered, refusal_settled}
use Rattle.score.specs.ScoreSettings.{ScoreSettings, OneExit, OneAnswer}
use Rattle.score.proofs.CheckCall.{turned_fits}

pub one_exit : OneExit
one_exit score state switches k a b p q = p.answered ∙ sym q.answered

module _ (score state switches : List ℕ) (k : ℕ) where
  outcome_fits : {r : Replied} → Outcome score state switches k r → Fits (of_settings r)
  outcome_fits (turned f e) = turned_fits score f e
  outcome_fits lengths = omega arith
  outcome_fits unlawful = omega arith
  outcome_fits switched = omega arith
  outcome_fits (counted a) = let most = three_most (decode score) (state_of state) k switches (few a) in (omega arith, omega arith, omega arith)

  pub fits : Fits (of_settings (reply score state switches k))
  fits = outcome_fits (outcome score state switches k)

  -- of what a count of settings ensures
  module _ {r : Replied} (called : SettingsCall score state switches k r) where
    pub called_fits : Fits (of_settings r)
    called_fits = subst⁻¹ (λ (x : Replied). Fits (of_settings x)) called.replies fits

  pub read : (a : ℕ) → ScoreSettings score state switches k a → Reads a (of_settings (reply score state switches k))
  read a c = rw c.answered (exact (of_settings (reply score state switches k)) fits)

reply_settled : (r t : Replied) → number_of (of_settings r) ≡ number_of (of_settings t) → value_of (of_settings r) ≡ value_of (of_settings t) →
    ((n : ℕ) → settings_of (of_settings r) n ≡ settings_of (of_settings t) n) → r ≡ t
reply_settled (Ok c) (Ok d) n v s = λ i. Ok (record { quiet = s 0 i; clashed = s 1 i; aborted = s 2 i })
reply_settled (Ok c) (Err u) n v s = absurd (refusal_numbered u (sym n))
reply_settled (Err r) (Ok d) n v s = absurd (refusal_numbered r n)
reply_settled (Err r) (Err u) n v s = ap Err (refusal_settled r u n v)

pub one_answer : OneAnswer
one_answer score₁ state₁ switches₁ score₂ state₂ switches₂ k₁ k₂ a p q =
    let x = read score₁ state₁ switches₁ k₁ a p in
    let y = read score₂ state₂ switches₂ k₂ a q in
    reply_settled (reply score₁ state₁ switches₁ k₁) (reply score₂ state₂ switches₂ k₂) (sym x.number ∙ y.number) (sym x.value ∙ y.value) (λ n. sym (x.settings n) ∙ y.settings n)
