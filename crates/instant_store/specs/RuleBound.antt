-- The passes that closing takes, for a rigger, who knows how many rules a score has.
--     RuleBound      however many switches are on, closing takes at most one pass more than the score has rules
use Rattle.std.specs.Prelude.{ℕ, ◌+◌, ◌≤◌, Bool, List, length}
use Rattle.tcc.specs.Score.{Score}
use Rattle.instant_store.specs.PassBound.{PassCount}

abbrev pub RuleBound : Type 0
RuleBound = (sc : Score) (tokens : List Bool) (passes : ℕ) → PassCount sc.rules tokens passes → passes ≤ length sc.rules + 1
