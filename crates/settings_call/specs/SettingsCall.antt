-- What a call that counts settings does with what it is lent: it writes nothing, and replies by numbers 1 to 9 and 17 of the
-- table, in their order, or with the three numbers.
--     press_fault      number 17: a fault in the switches, or "k above their number"
--     reply            the whole call
--     SettingsCall     its contract
use Rattle.std.specs.Prelude.{◌≡◌, Bool, cond, not, ◌||◌, List, ℕ, suc, eqb, leb, length, Ok}
use Rattle.format.specs.Decode.{sizes, decode}
use Rattle.check_verdicts.specs.Verdicts.{by_verdict}
use Rattle.check_score.specs.Check.{verdict}
use Rattle.lent.specs.Lengths.{state_bytes}
use Rattle.lent.specs.States.{state_fault, state_of}
use Rattle.settings_switches.specs.Switches.{switch_fault}
use Rattle.refusals.specs.Refused.{Turned, Lengths, State, Switches}
use Rattle.settings_call.specs.Reply.{Reply}
use Rattle.settings_tried.specs.Settings.{settings, counts}

abbrev pub press_fault : ℕ → List ℕ → ℕ → Bool
press_fault tokens switches k = switch_fault tokens switches || leb (suc (length switches)) k

unfoldable pub reply : List ℕ → List ℕ → List ℕ → ℕ → Reply
reply score state switches k =
    by_verdict (verdict score) Turned
    (cond (not (eqb (length state) state_bytes)) Lengths
    (cond (state_fault (sizes score).agents state) State
    (cond (press_fault (sizes score).tokens switches k) Switches
    (Ok (counts (decode score) (state_of state) (settings k switches))))))

-- the call's contract: over the score, the state, the switches, how many are pressed, and the reply
pub record SettingsCall (score state switches : List ℕ) (k : ℕ) (replied : Reply) : Type 0 where
  pub replies : replied ≡ reply score state switches k
