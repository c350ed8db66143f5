-- `check_circles::circle_among`: where no procedure calls one unguarded, none lies on a circle.
use Rattle.std.proofs.Common.{rules}
use Rattle.format.specs.Decode.{decode}
use Rattle.check_circles.proofs.Circle.{calls_known, none_circular}
use Rattle.check_circles.proofs.circle_among.Goals as goal

pub returns-then-not-calls_any : goal.returns-then-not-calls_any
returns-then-not-calls_any c =
    let s = c.args.s.now in
    none_circular (decode s) (calls_known s c.requires.faultless) (λ call. search (rules, c.calls_any.ensures.1 call))
