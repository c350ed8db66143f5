-- Lengths.
--     right     a length that is not wrong
use mathlib.Core.Path.{◌≡◌}
use mathlib.Core.Bool.{false, not}
use Prim.Native.Nat.{ℕ}
use borrow.Author.Tests.{eqb-true, not-false}
use lib.Dec.{eqb}

pub right : (m n : ℕ) → not (eqb m n) ≡ false → m ≡ n
right m n e = eqb-true m n (not-false (eqb m n) e)
