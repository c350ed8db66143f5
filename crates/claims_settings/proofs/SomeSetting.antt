-- A status that is counted is some setting's.
--     some_setting      the theorem
use mathlib.Core.Path.{◌∙◌}
use mathlib.Core.Logic.{by_cases}
use Prim.Native.Nat.{◌<◌}
use native.Mathlib.Decide.{dec_lt}
use native.Mathlib.Omega.{arith}
use Rattle.format.specs.Decode.{decode}
use Rattle.lent.specs.States.{state_of}
use Rattle.settings_tried.specs.Settings.{settings}
use Rattle.settings_tried.proofs.AllSettings.{all_settings}
use Rattle.settings_call.proofs.Outcomes.{distinct}
use Rattle.claims_settings.specs.SomeSetting.{SomeSetting}
use Rattle.claims_settings.proofs.Counts.{found, counted_accepted}
use Rattle.claims_settings.proofs.Tried.{tried_ends, some_ending}

pub some_setting : SomeSetting
some_setting score state switches k a status c h =
    let f = found c (counted_accepted c status h) in
    let few : status < 3 = by_cases (dec_lt 2 status) (λ g. absurd (omega (arith, f.beyond status g))) (λ g. omega arith) in
    let (set, m, e) = some_ending (decode score) (state_of state) status (settings k switches) (omega (arith, f.counts status (omega arith))) in
    let setting = (all_settings k switches (distinct f.accepts)).0 set m in
    (set, setting, λ ends t. (tried_ends f.accepts set setting t).1 ∙ e)
