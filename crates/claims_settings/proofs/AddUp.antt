-- The three numbers add up.
--     add_up      the theorem
use mathlib.Core.List.{List}
use mathlib.Core.Logic.{by_cases}
use Prim.Native.Nat.{ℕ, zero, suc, ◌≤◌}
use native.Mathlib.Decide.{dec_lt}
use native.Mathlib.Omega.{arith}
use Rattle.format.specs.Decode.{decode}
use Rattle.lent.specs.States.{state_of}
use Rattle.settings_tried.specs.Settings.{settings, counts, ending}
use Rattle.settings_tried.proofs.Binomial as settings
use Rattle.score_answer.specs.Answer.{settings_in}
use Rattle.settings_call.proofs.Outcomes.{few}
use Rattle.claims_settings.specs.AddUp.{AddUp}
use Rattle.claims_settings.proofs.Counts.{Found, found}

module _ {score state switches : List ℕ} {k answer : ℕ} (f : Found score state switches k answer) where
  ending_most : (status : ℕ) → status ≤ 2 → ending (decode score) (state_of state) status (settings k switches) ≤ 12870
  unfolding counts
  ending_most zero h = (settings.three_most (decode score) (state_of state) k switches (few f.accepts)).0
  ending_most (suc zero) h = (settings.three_most (decode score) (state_of state) k switches (few f.accepts)).1
  ending_most (suc (suc zero)) h = (settings.three_most (decode score) (state_of state) k switches (few f.accepts)).2
  ending_most (suc (suc (suc n))) h = absurd (omega arith)

  most : (status : ℕ) → settings_in answer status ≤ 12870
  most status = by_cases (dec_lt 2 status) (λ h. omega (arith, f.beyond status h)) (λ h. omega (arith, f.counts status (omega arith), ending_most status (omega arith)))

pub add_up : AddUp
unfolding counts
add_up score state switches k answer c n =
    let f = found c n in
    (omega (arith, f.counts 0 (omega arith), f.counts 1 (omega arith), f.counts 2 (omega arith), (settings.add_up (decode score) (state_of state) k switches).1), most f)
