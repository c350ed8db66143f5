-- `check_circles::lowest_circle`: the definition's circle, by the procedure found.
use Rattle.std.proofs.Common.{sym}
use Rattle.format.specs.Decode.{decode}
use Rattle.check_circles.proofs.Circle.{lowest_here, lowest_none}
use Rattle.check_circles.proofs.lowest_circle.Goals as goal

pub returns-in-Some : goal.returns-in-Some
returns-in-Some c = sym (lowest_here (decode c.args.s.now) c.in-Some.p c.in-Some.ensures)

pub returns-in-None : goal.returns-in-None
returns-in-None c = sym (lowest_none (decode c.args.s.now) c.in-None.ensures)
