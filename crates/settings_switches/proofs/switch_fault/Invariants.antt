-- `switch_fault`: whether a switch is listed again or unknown is found, or is left to find.
use Rattle.std.proofs.Common.{◌≡◌, ◌||◌, drop}
use Rattle.settings_switches.proofs.Listed.{flawed}
use Rattle.settings_switches.proofs.switch_fault.Given as goal

abbrev pub invariant-loop-i : goal.invariant-loop-i
invariant-loop-i l = flawed l.tokens l.switches ≡ (l.found || flawed l.tokens (drop l.i l.switches))
