-- An accepted count of settings.
--     Found                 what is then known, and what a caller reads
--     found                 it is so
--     counted_accepted      a call that counted a setting was accepted
use mathlib.Core.Path.{◌≡◌, refl, sym, ap, ◌∙◌}
use mathlib.Core.List.{List}
use Prim.Native.Nat.{ℕ, zero, suc, ◌<◌, ◌≤◌}
use native.Mathlib.Omega.{arith}
use Rattle.format.specs.Decode.{decode}
use Rattle.std.proofs.Common.{Err}
use Rattle.check_verdicts.specs.Verdicts.{verdict_number, verdict_value}
use Rattle.refusals.specs.declared.Refusal.{Refusal}
use Rattle.lent.specs.States.{state_of}
use Rattle.settings_tried.specs.Settings.{settings, counts, ending}
use Rattle.settings_call.specs.Reply.{Reply as Replied}
use Rattle.settings_call.specs.SettingsCall.{reply}
use Rattle.settings_call.proofs.Outcomes.{Accepts, Outcome, turned, lengths, unlawful, switched, counted, outcome}
use Rattle.score_answer.specs.Answer.{number_of, settings_of, number_in, settings_in}
use Rattle.score_answer.specs.Answer as answers
use Rattle.score_answer.specs.Replies.{of_settings}
use Rattle.score_answer.proofs.Answer.{none_beyond}
use Rattle.score_answer.proofs.Refusals.{refusal_numbered}
use Rattle.score.specs.ScoreSettings.{ScoreSettings}
use Rattle.score.proofs.ScoreSettings.{read}

pub record Found (score state switches : List ℕ) (k answer : ℕ) : Type 0 where
  pub accepts : Accepts score state switches k
  pub counts : (status : ℕ) → status ≤ 2 → settings_in answer status ≡ ending (decode score) (state_of state) status (settings k switches)
  pub beyond : (status : ℕ) → 2 < status → settings_in answer status ≡ 0

-- what is read of the three numbers, by the status
by_status : (q c a status : ℕ) (n : ℕ → ℕ) → n 0 ≡ q → n 1 ≡ c → n 2 ≡ a → status ≤ 2 → settings_of (answers.counted q c a) status ≡ n status
by_status q c a zero n p r s h = sym p
by_status q c a (suc zero) n p r s h = sym r
by_status q c a (suc (suc zero)) n p r s h = sym s
by_status q c a (suc (suc (suc m))) n p r s h = absurd (omega arith)

module _ {score state switches : List ℕ} {k answer : ℕ} where
  settings_are : ScoreSettings score state switches k answer → (r : Replied) → reply score state switches k ≡ r → (status : ℕ) → settings_in answer status ≡ settings_of (of_settings r) status
  settings_are c r q status = (read score state switches k answer c).settings status ∙ ap (λ x. settings_of (of_settings x) status) q

  pub found : ScoreSettings score state switches k answer → number_in answer ≡ 0 → Found score state switches k answer
  unfolding counts
  found c n = go (reply score state switches k) refl (outcome score state switches k)
    where
      number_is : (r : Replied) → reply score state switches k ≡ r → number_of (of_settings r) ≡ 0
      number_is r q = ap (λ x. number_of (of_settings x)) (sym q) ∙ sym (read score state switches k answer c).number ∙ n

      go : (r : Replied) → reply score state switches k ≡ r → Outcome score state switches k r → Found score state switches k answer
      go r q (turned f e) = absurd (refusal_numbered (Refusal.Score f) (number_is r q))
      go r q lengths = absurd (omega (arith, number_is r q))
      go r q unlawful = absurd (omega (arith, number_is r q))
      go r q switched = absurd (omega (arith, number_is r q))
      go r q (counted a) = record {
        accepts = a;
        counts = λ status h. settings_are c r q status ∙ by_status _ _ _ status (λ m. ending (decode score) (state_of state) m (settings k switches)) refl refl refl h;
        beyond = λ status h. settings_are c r q status ∙ none_beyond _ _ _ status h;
      }

  -- a call that counted a setting was accepted
  pub counted_accepted : ScoreSettings score state switches k answer → (status : ℕ) → 0 < settings_in answer status → number_in answer ≡ 0
  counted_accepted c status h = go (reply score state switches k) refl (outcome score state switches k)
    where
      turned_none : (n v : ℕ) → settings_of (answers.reply n v) status ≡ 0
      turned_none zero v = refl
      turned_none (suc n) v = refl

      go : (r : Replied) → reply score state switches k ≡ r → Outcome score state switches k r → number_in answer ≡ 0
      go r q (turned f e) = absurd (omega (arith, settings_are c r q status, turned_none (verdict_number (Err f)) (verdict_value (Err f))))
      go r q lengths = absurd (omega (arith, settings_are c r q status))
      go r q unlawful = absurd (omega (arith, settings_are c r q status))
      go r q switched = absurd (omega (arith, settings_are c r q status))
      go r q (counted a) = (read score state switches k answer c).number ∙ ap (λ x. number_of (of_settings x)) q
