-- The marks are the least fixed point, and the answer is read off them.
use Rattle.std.proofs.Common.{refl, rules, arith}
use Rattle.format.specs.Decode.{decode}
use Rattle.format.proofs.Known.{agents_all, agents_few}
use Rattle.flags.specs.Flags.{set_of}
use Rattle.instant_engine.proofs.ScratchCount.{scratch_count}
use Rattle.instant_engine.proofs.Outcomes.{aborted_outcome, quiet_outcome}
use Rattle.instant_engine.proofs.play.Goals as goal

pub count_and_clear-count-requires-clause-used_le_scratch_bytes : goal.count_and_clear-count-requires-clause-used_le_scratch_bytes
count_and_clear-count-requires-clause-used_le_scratch_bytes c =
    omega (arith, agents_few c.args.prepared.now.playable refl, c.agents.ensures)

pub count_and_clear-count-requires-clause-by_index : goal.count_and_clear-count-requires-clause-by_index
count_and_clear-count-requires-clause-by_index c =
    λ k past. c.end_of-end.ensures.unset k (omega (arith, agents_all c.args.prepared.now.playable refl, c.agents.ensures))

pub returns-in-Some-clause-value : goal.returns-in-Some-clause-value
returns-in-Some-clause-value c =
    let sc = decode c.args.prepared.now.bytes.now in
    let agents = set_of c.args.agents in
    let inputs = set_of c.args.inputs in
    let marks = c.settle-held in
    let live = set_of marks.new.live in
    let end = c.in-Some.ensures in
    let count = scratch_count sc agents inputs live (set_of marks.result) c.end_of-end.new.scratch c.count_and_clear-count.new.scratch
    c.end_of-end.result c.count_and_clear-count.result marks.ensures c.end_of-end.ensures c.count_and_clear-count.ensures in
    quiet_outcome sc agents inputs live marks.result marks.ensures end.aborted c.from.result c.count_and_clear-count.result c.in-Some.awake
    (search rules) c.from.ensures count.counted end.awake

pub returns-in-None-clause-value : goal.returns-in-None-clause-value
returns-in-None-clause-value c =
    let marks = c.settle-held in
    aborted_outcome (decode c.args.prepared.now.bytes.now) (set_of c.args.agents) (set_of c.args.inputs) (set_of marks.new.live) marks.result marks.ensures c.in-None.ensures.aborted
