-- The first 32 k agents are read, and their words are in the scratch.
use Rattle.std.proofs.Common.{refl, sym, ◌*◌, ◌≤◌, length, arith}
use Rattle.format.specs.Decode.{decode}
use Rattle.format.proofs.Known.{agents_all, agents_few}
use Rattle.flags.specs.Flags.{set_of}
use Rattle.instant_end.proofs.Reading.{read_none, read_free, read_awake}
use Rattle.instant_end.proofs.Reduced.{marked_none, marked_more, marked_long, marked_unset, marked_reduced}
use Rattle.instant_end.proofs.end_of.Goals as goal

pub loop-k-init : goal.loop-k-init
loop-k-init c =
    let sc = decode c.args.prepared.now.bytes.now in
    let live = set_of c.args.live.now in
    let held = set_of c.args.held.now in
    record { read = read_none sc live held; marked = marked_none sc live held c.args.scratch.now c.requires }

pub returns-in_err-reduced : goal.returns-in_err-reduced
returns-in_err-reduced c =
    let p = c.args.prepared.now.playable in
    let sc = decode c.args.prepared.now.bytes.now in
    let live = set_of c.args.live.now in
    let held = set_of c.args.held.now in
    let l = c.loop-k in
    let says = c.agents.ensures in
    rw c.from_residual.ensures record {
      aborted = sym c.in_err-reduced.ensures.aborts;
      reduced = tt;
      awake = tt;
      long = marked_long sc live held l.k l.scratch l.invariant.marked (omega (arith, agents_few p refl, says));
      unset = λ i h. marked_unset sc live held l.k l.scratch l.invariant.marked i (omega (arith, agents_all p refl, says));
    }

pub put_word-requires : goal.put_word-requires
put_word-requires c =
    let p = c.args.prepared.now.playable in
    let l = c.loop-k in
    let few = agents_few p refl in
    omega (arith, few, c.agents.ensures, marked_long (decode c.args.prepared.now.bytes.now) (set_of c.args.live.now) (set_of c.args.held.now) l.k l.scratch l.invariant.marked (omega (arith, few, c.agents.ensures)))

pub loop-k-preserved : goal.loop-k-preserved
loop-k-preserved c =
    let l = c.loop-k in
    let part = c.in_ok-reduced.ensures in
    record {
      read = part.read;
      marked = marked_more (decode c.args.prepared.now.bytes.now) (set_of c.args.live.now) (set_of c.args.held.now) l.k c.in_ok-reduced.reduced l.scratch c.put_word.new.bytes l.invariant.marked part.reduced c.put_word.ensures;
    }

pub returns : goal.returns
returns c =
    let p = c.args.prepared.now.playable in
    let sc = decode c.args.prepared.now.bytes.now in
    let live = set_of c.args.live.now in
    let held = set_of c.args.held.now in
    let l = c.loop-k in
    let says = c.agents.ensures in
    let all : length sc.agents ≤ 32 * l.k = omega (arith, agents_all p refl, says) in
    record {
      aborted = read_free sc live held l.invariant.read all;
      reduced = marked_reduced sc live held l.k l.scratch l.invariant.marked all p.lawful.agents_at_most;
      awake = read_awake sc live held l.invariant.read all;
      long = marked_long sc live held l.k l.scratch l.invariant.marked (omega (arith, agents_few p refl, says));
      unset = λ i h. marked_unset sc live held l.k l.scratch l.invariant.marked i (omega (arith, agents_all p refl, says));
    }
