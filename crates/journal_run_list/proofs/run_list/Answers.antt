-- An instant is played and written at each turn.
use Rattle.std.proofs.Common.{◌≡◌, false, ◌+◌, ◌-◌, ◌<◌, length, take, drop, refl, ap, sym, subst, ◌∙◌, arith, length-drop, Err}
use borrow.Author.Tests.{eqb-false}
use borrow.Rule.Slice.PartMut.{same_len_mid}
use Rattle.format.specs.Decode.{sizes}
use Rattle.lent.specs.States.{last_number}
use Rattle.flags.specs.Flags.{set_of}
use Rattle.instant_state.specs.Standing.{state_in}
use Rattle.journal_instants.specs.Instants.{input_lists}
use Rattle.journal_step.proofs.Reading.{reading_none, reading_end}
use Rattle.journal_run_list.specs.Run.{run_from}
use Rattle.journal_run_list.specs.Advance.{RanTo}
use Rattle.journal_run_list.proofs.Took.{took_fits}
use Rattle.journal_run_list.proofs.Turns.{Turn, next, told_below, lists, stands_round}
use Rattle.journal_run_list.proofs.Runs.{Half, room_is, put_back, half_none, half_more, half_stopped, half_ended}
use Rattle.journal_run_list.proofs.run_list.Goals as goal

pub loop-at-init : goal.loop-at-init
loop-at-init c = record {
  reading = reading_none false (sizes c.args.prepared.now.bytes.now).tokens c.args.inputs.now c.requires.inputs_value;
  lawful = c.requires.lawful_state;
  room = omega arith;
  counted = omega arith;
  few = omega (arith, c.ranges.number);
  half = λ s e m. half_none c.args.prepared.now.bytes.now c.args.inputs.now s c.args.journal.now c.args.standing c.args.number e m;
  scratch_is = c.requires.scratch_value;
}

pub advance-requires-clause-by_index : goal.advance-requires-clause-by_index
advance-requires-clause-by_index c =
    told_below (record { reading = c.loop-at.invariant.reading; not_end = c.loop-at-test.true; is = c.part-here.ensures; read = c.tokens_in-told.ensures })

pub overflow_add-reached : goal.overflow_add-reached
overflow_add-reached c =
    let below : c.loop-at.reached ≡ last_number → ⊥ = eqb-false _ _ (took_fits c.in-Ok.ensures.advanced).0 in
    omega (arith, c.loop-at.invariant.few)

pub overflow_add-filled : goal.overflow_add-filled
overflow_add-filled c =
    omega (arith, (took_fits c.in-Ok.ensures.advanced).1, ap length (room_is c.loop-at.journal c.loop-at.filled), length-drop c.loop-at.filled c.loop-at.journal, c.loop-at.invariant.room)

pub loop-at-smaller : goal.loop-at-smaller
loop-at-smaller c =
    let n = next (record { reading = c.loop-at.invariant.reading; not_end = c.loop-at-test.true; is = c.part-here.ensures; read = c.tokens_in-told.ensures }) in
    omega (arith, n.some, c.loop-at-test.true)

pub loop-at-preserved : goal.loop-at-preserved
loop-at-preserved c =
    let l = c.loop-at in
    let took = c.in-Ok.ensures.advanced in
    let t : Turn c.args.prepared.now.bytes.now c.args.inputs.now l.at c.part-here.result.now c.tokens_in-told.result = record { reading = c.loop-at.invariant.reading; not_end = c.loop-at-test.true; is = c.part-here.ensures; read = c.tokens_in-told.ensures } in
    let n = next t in
    let below : l.reached < last_number = let ne : l.reached ≡ last_number → ⊥ = eqb-false _ _ (took_fits took).0 in omega (arith, l.invariant.few) in
    let lent = room_is l.journal l.filled in
    let left : length (take (length l.journal - l.filled) (drop l.filled l.journal)) ≡ length c.args.journal.now - l.filled = ap length lent ∙ length-drop l.filled l.journal ∙ ap (λ k. k - l.filled) l.auto.journal in
    let long = same_len_mid l.filled (length l.journal - l.filled) l.journal c.advance.new.journal c.advance.auto.journal in
    record {
      reading = n.follows;
      lawful = took.lawful;
      room = omega (arith, (took_fits took).1, left, long, l.auto.journal, l.invariant.room);
      counted = omega (arith, n.some, l.invariant.counted);
      few = omega (arith, below);
      half = λ s e m.
          subst (λ j. Half c.args.prepared.now.bytes.now c.args.inputs.now s c.args.journal.now j c.in-Ok.taken.standing (l.reached + 1) (l.instants + 1) (l.at + length c.part-here.result.now) (l.filled + c.in-Ok.taken.bytes))
          (sym (put_back l.journal c.advance.new.journal l.filled l.invariant.room))
          (half_more c.args.prepared.now.bytes.now c.args.inputs.now s c.args.journal.now l.journal l.stands l.reached l.instants l.at l.filled (l.invariant.half s e m)
          (set_of c.tokens_in-told.result) (drop (l.at + length c.part-here.result.now) c.args.inputs.now) (lists t) _ left _
          lent c.in-Ok.taken took _ refl (stands_round t c.args.prepared.now.playable (state_in l.stands) l.invariant.lawful) below);
      scratch_is = c.in-Ok.ensures.scratch_after;
    }

pub returns-in-Err-clause-by_index : goal.returns-in-Err-clause-by_index
returns-in-Err-clause-by_index c s e m =
    let l = c.loop-at in
    let t : Turn c.args.prepared.now.bytes.now c.args.inputs.now l.at c.part-here.result.now c.tokens_in-told.result = record { reading = c.loop-at.invariant.reading; not_end = c.loop-at-test.true; is = c.part-here.ensures; read = c.tokens_in-told.ensures } in
    let lent = room_is l.journal l.filled in
    let left : length (take (length l.journal - l.filled) (drop l.filled l.journal)) ≡ length c.args.journal.now - l.filled = ap length lent ∙ length-drop l.filled l.journal ∙ ap (λ k. k - l.filled) l.auto.journal in
    subst (λ j. RanTo c.args.prepared.now.bytes.now s c.args.journal.now j (run_from c.args.prepared.now.bytes.now s (length c.args.journal.now) (input_lists c.args.inputs.now)) (record { stop = Err c.in-Err.stop; instants = l.instants; standing = l.stands; number = l.reached }))
    (sym (put_back l.journal c.advance.new.journal l.filled l.invariant.room))
    (half_stopped c.args.prepared.now.bytes.now c.args.inputs.now s c.args.journal.now l.journal l.stands l.reached l.instants l.at l.filled (l.invariant.half s e m)
    (set_of c.tokens_in-told.result) (drop (l.at + length c.part-here.result.now) c.args.inputs.now) (lists t) _ left _
    lent c.in-Err.stop c.in-Err.ensures.advanced _ refl refl refl refl l.invariant.lawful)

pub returns-clause-by_index : goal.returns-clause-by_index
returns-clause-by_index c s e m =
    let l = c.loop-at in
    half_ended c.args.prepared.now.bytes.now c.args.inputs.now s c.args.journal.now l.journal l.stands l.reached l.instants l.at l.filled (l.invariant.half s e m)
    _ refl refl refl refl l.invariant.lawful (reading_end (sizes c.args.prepared.now.bytes.now).tokens c.args.inputs.now l.at (omega (arith, c.loop-at-test.false)))
