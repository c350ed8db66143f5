-- No live agent from i on aborts.
use Rattle.std.proofs.Common.{refl, sym, ◌∙◌, ◌-◌, arith}
use Rattle.laws.proofs.Booleans.{true_is_false}
use Rattle.laws.proofs.Sets.{some_any}
use Rattle.tcc.specs.Score.{agent_at}
use Rattle.tcc.specs.Instant.{is_abort}
use Rattle.format.specs.Decode.{decode}
use Rattle.format.proofs.Known.{agents_all, agents_few}
use Rattle.flags.specs.Flags.{set_of}
use Rattle.flags.proofs.Flags.{flag_member, member_flag}
use Rattle.instant_end.proofs.Free.{free_none, free_more, free_all}
use Rattle.instant_end.proofs.any_aborts.Goals as goal
use Rattle.instant_end.proofs.any_aborts.Goals.{else-live-i-via-then-live-i+else-aborts, else-live-i-via-else-live-i}

pub loop-i-init : goal.loop-i-init
loop-i-init c =
    free_none (decode c.args.prepared.now.bytes.now) (set_of c.args.live.now) c.agents-i.result
    (omega (arith, agents_all c.args.prepared.now.playable refl, c.agents-i.ensures))

pub bounds-live-i : goal.bounds-live-i
bounds-live-i c = omega (arith, agents_few c.args.prepared.now.playable refl, c.agents-i.ensures)

pub returns-then-aborts : goal.returns-then-aborts
returns-then-aborts c =
    sym (some_any (λ j. is_abort (agent_at (decode c.args.prepared.now.bytes.now) j)) (flag_member c.args.live.now c.if-live-i.true) (sym c.aborts.ensures ∙ c.if-aborts.true))

pub loop-i-preserved : goal.loop-i-preserved
loop-i-preserved c =
    let l = c.loop-i in
    let live = c.args.live.now in
    free_more (decode c.args.prepared.now.bytes.now) (set_of live) l.i (l.i - 1) (omega arith) l.invariant
    (λ m. elim c.else-live-i.branch [
      | else-live-i-via-then-live-i+else-aborts w ↦ sym w.aborts.ensures ∙ w.if-aborts.false
      | else-live-i-via-else-live-i w ↦ absurd (true_is_false (member_flag live m) w.if-live-i.false)
    ])

pub returns : goal.returns
returns c = free_all (decode c.args.prepared.now.bytes.now) (set_of c.args.live.now) (λ j le m. c.loop-i.invariant j (omega arith) m)
