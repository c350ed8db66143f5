-- How the call ends.
--     Accepts      what holds where settings are counted
--     Outcome      how it ends, by what holds of what is lent
--     outcome      it ends in no other way
--     few, distinct, known      where settings are counted, the switches are at most 16 distinct tokens of the score
use mathlib.Core.Path.{◌≡◌}
use mathlib.Core.Bool.{false, not}
use mathlib.Core.List.{List, Memᴰ}
use Prim.Native.Nat.{ℕ, ◌<◌, ◌≤◌}
use native.Mathlib.Omega.{arith}
use lib.Dec.{eqb}
use Rattle.std.proofs.Common.{Ok, Err}
use lib.ListN.{length}
use Rattle.laws.proofs.Booleans.{by_test, neither}
use Rattle.laws.proofs.Sets.{none_above}
use Rattle.format.specs.Decode.{sizes, decode}
use Rattle.format.proofs.Decode.{decode_tokens}
use Rattle.check_verdicts.specs.declared.Fault.{Fault}
use Rattle.check_verdicts.specs.Verdicts.{verdict_number}
use Rattle.check_score.specs.Check.{verdict}
use Rattle.refusals.specs.Refused.{Turned, Lengths, State, Switches}
use Rattle.refusals.proofs.ByVerdict.{by_fault}
use Rattle.lent.specs.Lengths.{state_bytes}
use Rattle.lent.specs.States.{state_fault, state_of}
use Rattle.lent.proofs.Lengths.{right}
use Rattle.settings_switches.specs.Switches.{most_switches, repeated, switch_fault}
use Rattle.settings_switches.proofs.Listed as listed
use Rattle.settings_tried.specs.Settings.{settings, counts}
use Rattle.settings_call.specs.Reply.{Reply}
use Rattle.settings_call.specs.SettingsCall.{press_fault, reply}

pub record Accepts (score state switches : List ℕ) (k : ℕ) : Type 0 where
  pub accepted : verdict_number (verdict score) ≡ 0
  pub long : length state ≡ state_bytes
  pub lawful : state_fault (sizes score).agents state ≡ false
  pub faultless : press_fault (sizes score).tokens switches k ≡ false

pub data Outcome (score state switches : List ℕ) (k : ℕ) : Reply → Type 0 where
  turned : (f : Fault) → verdict score ≡ Err f → Outcome score state switches k (Turned f)
  lengths : Outcome score state switches k Lengths
  unlawful : Outcome score state switches k State
  switched : Outcome score state switches k Switches
  counted : Accepts score state switches k → Outcome score state switches k (Ok (counts (decode score) (state_of state) (settings k switches)))

pub outcome : (score state switches : List ℕ) (k : ℕ) → Outcome score state switches k (reply score state switches k)
unfolding reply
outcome score state switches k =
    let O : Reply → Type 0 = Outcome score state switches k in
    by_fault O (verdict score) turned
    (λ accepted. by_test O (not (eqb (length state) state_bytes)) (λ e. lengths)
    (λ even. by_test O (state_fault (sizes score).agents state) (λ e. unlawful)
    (λ lawful. by_test O (press_fault (sizes score).tokens switches k) (λ e. switched)
    (λ faultless. counted (record { accepted = accepted; long = right (length state) state_bytes even; lawful = lawful; faultless = faultless })))))

module _ {score state switches : List ℕ} {k : ℕ} (a : Accepts score state switches k) where
  none : switch_fault (sizes score).tokens switches ≡ false
  none = (neither (switch_fault (sizes score).tokens switches) _ a.faultless).0

  pub few : length switches ≤ most_switches
  few = (listed.faultless (sizes score).tokens switches none).0

  pub distinct : repeated switches ≡ false
  distinct = (listed.faultless (sizes score).tokens switches none).1

  pub known : (t : ℕ) → Memᴰ t switches → t < (decode score).tokens
  known t m = omega (arith, decode_tokens score, none_above (sizes score).tokens switches (listed.faultless (sizes score).tokens switches none).2 t m)
