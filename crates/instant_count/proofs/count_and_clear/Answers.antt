-- The bytes below the index are counted and cleared.
use Rattle.std.proofs.Common.{◌<◌, ◌^◌, get_or, arith}
use lib.Count.{ones-le}
use Rattle.instant_count.proofs.Tallying.{tallying_none, tallying_few, tallying_more, tallied}
use Rattle.instant_count.proofs.count_and_clear.Goals as goal
use Rattle.std.proofs.lemmas.List.{length-take-le}

pub loop-byte-init : goal.loop-byte-init
loop-byte-init c = tallying_none c.args.scratch.now c.args.used (omega arith)

pub overflow_add-count : goal.overflow_add-count
overflow_add-count c =
    let l = c.loop-byte in
    let small : get_or l.byte-items l.byte-index 0 < 2 ^ 8 = omega arith in
    omega (arith, ones-le 8 (get_or l.byte-items l.byte-index 0) small, tallying_few c.args.scratch.now l.byte-items l.byte-index l.count l.invariant, length-take-le c.args.used c.args.scratch.now (omega arith))

pub loop-byte-preserved : goal.loop-byte-preserved
loop-byte-preserved c =
    let l = c.loop-byte in
    tallying_more c.args.scratch.now l.byte-items l.byte-index l.count l.invariant (omega arith) (omega arith)

pub returns : goal.returns
returns c =
    let l = c.loop-byte in
    let long = length-take-le c.args.used c.args.scratch.now (omega arith) in
    rw c.from.ensures (tallied c.args.scratch.now l.byte-items l.byte-index l.count l.invariant c.args.used (omega arith) (omega arith) (omega arith) (omega arith) (omega arith) c.requires.by_index)
