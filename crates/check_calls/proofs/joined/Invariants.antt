-- `check_calls::joined`: the flags below q are joined, the others as in a.
use Rattle.std.proofs.Common.{◌≡◌, false, ◌||◌, ℕ, ◌<◌, ◌≤◌, get_or}
use Rattle.check_calls.proofs.joined.Given as goal

abbrev pub invariant-loop-q : goal.invariant-loop-q
invariant-loop-q l =
    record {
      done : (j : ℕ) → j < l.q → get_or l.mark-items j false ≡ (get_or l.fn.a j false || get_or l.b j false);
      left : (j : ℕ) → l.q ≤ j → get_or l.mark-items j false ≡ get_or l.fn.a j false;
    }
