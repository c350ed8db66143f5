-- The agents below 32 k + j are read.
use Rattle.std.proofs.Common.{refl, sym, ◌∙◌, ◌+◌, ◌*◌, ◌<◌, length, arith}
use Rattle.laws.proofs.Booleans.{true_is_false}
use Rattle.tcc.specs.Score.{agent_at}
use Rattle.format.specs.Decode.{decode}
use Rattle.format.proofs.Known.{agents_all, agents_few}
use Rattle.flags.specs.Flags.{set_of}
use Rattle.flags.proofs.Flags.{flag_member, member_flag}
use Rattle.instant_end.specs.declared.Fate.TheVariants.{Aborts}
use Rattle.instant_end.proofs.Fates.{fate_says}
use Rattle.instant_end.proofs.Reading.{abort_found}
use Rattle.instant_end.proofs.Parts.{part_same, part_none, part_by, part_reduced, part_stays, parted}
use Rattle.instant_end.proofs.part_of.Goals as goal
use Rattle.instant_end.proofs.part_of.Goals.{then-live-from+in-Reduced, then-live-from+in-Stays, else-live-from}

pub overflow_mul-from : goal.overflow_mul-from
overflow_mul-from c = omega (arith, agents_few c.args.prepared.now.playable refl)

pub loop-j-init : goal.loop-j-init
loop-j-init c = part_none (decode c.args.prepared.now.bytes.now) (set_of c.args.live.now) (set_of c.args.held.now) c.args.k c.requires.read

pub bounds-live-from : goal.bounds-live-from
bounds-live-from c = omega (arith, agents_few c.args.prepared.now.playable refl)

pub returns-in-Aborts : goal.returns-in-Aborts
returns-in-Aborts c =
    let sc = decode c.args.prepared.now.bytes.now in
    let held = set_of c.args.held.now in
    let i = 32 * c.args.k + c.loop-j.j in
    record {
      aborts = abort_found sc (set_of c.args.live.now) held i (flag_member c.args.live.now c.if-live-from.true)
          (fate_says held (agent_at sc i) Aborts (sym c.fate_of.ensures.value ∙ c.in-Aborts.is));
      read = tt;
      reduced = tt;
    }

pub loop-j-preserved : goal.loop-j-preserved
loop-j-preserved c =
    let sc = decode c.args.prepared.now.bytes.now in
    let live = c.args.live.now in
    let held = set_of c.args.held.now in
    let k = c.args.k in
    let l = c.loop-j in
    let law = c.args.prepared.now.playable.lawful in
    let known : 32 * k + l.j < length sc.agents = omega (arith, agents_all c.args.prepared.now.playable refl) in
    elim c.if-live-from.branch [
      | then-live-from+in-Reduced w ↦
          part_same sc (set_of live) held k (w.awake-is ∙ w.fate_of.ensures.awake_after) w.reduced-is
          (part_reduced sc (set_of live) held k l.invariant known law (flag_member live w.if-live-from.true) (omega arith) (sym w.fate_of.ensures.value ∙ w.in-Reduced.is))
      | then-live-from+in-Stays w ↦
          part_same sc (set_of live) held k (w.awake-is ∙ w.fate_of.ensures.awake_after) w.reduced-is
          (part_stays sc (set_of live) held k l.invariant known law (flag_member live w.if-live-from.true) (sym w.fate_of.ensures.value ∙ w.in-Stays.is))
      | else-live-from w ↦
          part_same sc (set_of live) held k w.awake-is w.reduced-is
          (part_by sc (set_of live) held k l.invariant known (λ m. true_is_false (member_flag live m) w.if-live-from.false))
    ]

pub returns : goal.returns
returns c =
    parted (decode c.args.prepared.now.bytes.now) (set_of c.args.live.now) (set_of c.args.held.now) c.args.k c.loop-j.invariant
    (omega arith)
    (λ short. omega (arith, agents_all c.args.prepared.now.playable refl))
