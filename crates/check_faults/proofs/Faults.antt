-- Laws of the first fault.
--     fault_step        the faults from word k on: word k, or else those from word k + 1 on
--     fault_end         past the last word there is none
use mathlib.Core.Path.{◌≡◌}
use mathlib.Core.List.{List}
use Prim.Native.Nat.{ℕ, ◌+◌, ◌<◌, ◌≤◌}
use native.Mathlib.Numerals.{add-one}
use lib.ListN.{length, get_or, drop, drop_of_length-le}
use lib.Seq.{drop-cons}
use Rattle.format.specs.declared.Sizes.{Sizes}
use Rattle.check_verdicts.specs.Verdict.{Accepted}
use Rattle.check_verdicts.specs.Verdicts.{or_else}
use Rattle.check_faults.specs.Faults.{word_verdict, first_fault}

pub fault_step : (h : Sizes) (k : ℕ) (ws : List ℕ) → k < length ws →
    first_fault h k (drop k ws) ≡ or_else (word_verdict h k (get_or ws k 0)) (first_fault h (k + 1) (drop (k + 1) ws))
unfolding first_fault
fault_step h k ws lt = rw (add-one k, drop-cons ws k 0 lt)

pub fault_end : (h : Sizes) (k : ℕ) (ws : List ℕ) → length ws ≤ k → first_fault h k (drop k ws) ≡ Accepted
unfolding first_fault
fault_end h k ws le = rw (drop_of_length-le ws le)
