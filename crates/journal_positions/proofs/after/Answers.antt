-- `after`: a part of no bytes ends the way, and any other is one instant of it.
use Rattle.std.proofs.Common.{sym, ap, ◌∙◌, ◌+◌, ◌-◌, length, arith}
use Rattle.journal_positions.specs.Positions.{place_after}
use Rattle.journal_positions.proofs.Positions.{size_shown, place_here, place_more, place_none}
use Rattle.journal_positions.proofs.after.Goals as goal

pub returns-then-size-eq0 : goal.returns-then-size-eq0
returns-then-size-eq0 c =
    let a = c.args in
    let l = c.loop in
    let sized = ap length c.part_at-size.ensures ∙ size_shown a.journal.now l.place in
    place_here (a.instants - l.counter) a.journal.now l.place (sym sized ∙ c.if-size-eq0.true) ∙ l.invariant

pub loop-preserved : goal.loop-preserved
loop-preserved c =
    let a = c.args in
    let l = c.loop in
    let sized = ap length c.part_at-size.ensures ∙ size_shown a.journal.now l.place in
    ap (λ k. place_after (a.instants - (l.counter + 1)) a.journal.now (l.place + k)) sized
    ∙ sym (place_more (a.instants - l.counter) (a.instants - (l.counter + 1)) a.journal.now l.place (omega arith))
    ∙ l.invariant

pub returns : goal.returns
returns c =
    let a = c.args in
    let l = c.loop in
    place_none (a.instants - l.counter) a.journal.now l.place (omega arith) ∙ l.invariant
