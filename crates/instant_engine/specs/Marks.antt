-- Contracts of inner functions: marks of an instant to which nothing can be added.
--     Shut           whatever the rules and the clash bring is held
--     Fixed          marks that are sound and closed: the instant's least fixed point
use mathlib.Core.List.{List, Memᴰ}
use Rattle.std.specs.Prelude.{ℕ, ◌<◌}
use Rattle.tcc.specs.Closure.{Rule}
use Rattle.tcc.specs.Score.{Score}
use Rattle.tcc.specs.FixedPoint.{Marked, Sound, Closed}

pub record Shut (sc : Score) (held : List ℕ) : Type 0 where
  pub rules : (r : Rule ℕ) → Memᴰ r sc.rules → ((p : ℕ) → Memᴰ p r.premises → Memᴰ p held) → Memᴰ r.conclusion held
  pub clash : (t : ℕ) → Memᴰ 0 held → t < sc.tokens → Memᴰ t held

pub record Fixed (sc : Score) (agents inputs live held : List ℕ) : Type 0 where
  pub sound : Sound sc agents inputs (Marked live) (Marked held)
  pub closed : Closed sc agents inputs (Marked live) (Marked held)
