-- The table's row 7.
--     circle_from          the lowest procedure from p on, of those left, from which unguarded calls lead back to itself
use Rattle.std.specs.Prelude.{cond, ℕ, zero, suc}
use Rattle.tcc.specs.Score.{Score}
use Rattle.tcc.specs.Unguarded.{circular}
use Rattle.check_verdicts.specs.Verdict.{Verdict, Accepted, Circle}

unfoldable pub circle_from : Score → ℕ → ℕ → Verdict
circle_from sc p zero = Accepted
circle_from sc p (suc left) = cond (circular sc p) (Circle p) (circle_from sc (suc p) left)
