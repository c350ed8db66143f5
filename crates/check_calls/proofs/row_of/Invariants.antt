-- `check_calls::row_of`: the flags below the index are filled, and what is left of the set holds the rest.
use Rattle.std.proofs.Common.{◌≡◌, false, ℕ, ◌<◌, ◌≤◌, ◌/◌, ◌^◌, length, get_or}
use Rattle.check_calls.specs.Calls.{in_set}
use Rattle.check_calls.proofs.row_of.Given as goal

abbrev pub invariant-loop-mark : goal.invariant-loop-mark
invariant-loop-mark l =
    record {
      long : length l.mark-items ≡ 64;
      rest : l.rest ≡ l.set / 2 ^ l.mark-index;
      done : (j : ℕ) → j < l.mark-index → get_or l.mark-items j false ≡ in_set l.set j;
      left : (j : ℕ) → l.mark-index ≤ j → j < 64 → get_or l.mark-items j false ≡ false;
    }
