-- `after`: what is left of the way is the same from the new position.
use Rattle.std.proofs.Common.{◌≡◌, ◌-◌}
use Rattle.journal_positions.specs.Positions.{place_after}
use Rattle.journal_positions.proofs.after.Given as goal

abbrev pub invariant-loop : goal.invariant-loop
invariant-loop l = place_after (l.instants - l.counter) l.journal l.place ≡ place_after l.instants l.journal l.at
