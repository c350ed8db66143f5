-- `check_circles::circle_by_size`: no score has more agents than the largest table has places.
use Rattle.check_circles.proofs.Circle.{few_agents}
use Rattle.check_circles.proofs.circle_by_size.Goals as goal

pub circle_in-requires-else-head-le128-clause-agents_in_bounds :
    goal.circle_in-requires-else-head-le128-clause-agents_in_bounds
circle_in-requires-else-head-le128-clause-agents_in_bounds c =
    few_agents c.args.s.now c.requires.faultless c.args.head c.requires.head_value
