-- `write_standing`: the state without its number, and the number put behind it.
use borrow.Author.Rules.{rules}
use native.Mathlib.Omega.{arith}
use lib.ListN.{drop}
use Rattle.lent.specs.Lengths.{unnumbered_bytes}
use Rattle.lent.proofs.Numbered.{numbered_put}
use Rattle.instant_state.specs.Standing.{state_in}
use Rattle.instant_state.proofs.write_standing.Statement.{statement}
use Rattle.instant_state.proofs.write_standing.Tie as tie

-- Stations of the walk, each from a later place.
abbrev to_start : tie.After-write_unnumbered → tie.Start
to_start c = c.before.before.before

abbrev to_unnumbered : tie.After-slice_known-3-1 → tie.After-write_unnumbered
to_unnumbered c = c.before.before.before.before.before.before

write_unnumbered_requires : tie.Need-write_unnumbered-requires
write_unnumbered_requires c κs = let b = c in (omega (arith, b.requires.0), b.requires.1)

write_number_requires : tie.Need-write_number-requires
write_number_requires c κs = search rules

same_length : tie.Need-shape_of-state
same_length c = search rules

returns : tie.Need-returns
returns c =
    let at-unnumbered = to_unnumbered c in
    let a = (to_start at-unnumbered).args in
    let s = at-unnumbered.write_unnumbered in
    let t = c.write_number in
    numbered_put (state_in a.standing) a.number (drop unnumbered_bytes a.state.now) s.new.state t.new.state s.ensures t.ensures

pub write_standing_spec : {M : Type 1} → statement M
write_standing_spec =
    tie.close (tie.spec write_unnumbered_requires write_number_requires same_length returns)
