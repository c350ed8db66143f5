-- The root of procedure 0 is the one agent awake.
use Rattle.std.proofs.Common.{ap, true, false, replicate, arith}
use lib.ListN.{set}
use Rattle.format.proofs.Decode.{decode_roots}
use Rattle.journal_step.proofs.Starts.{started}
use Rattle.journal_step.proofs.start.Goals as goal

pub root_of-requires : goal.root_of-requires
root_of-requires c =
    let p = c.args.prepared.now.playable in
    omega (arith, decode_roots c.args.prepared.now.bytes.now p.whole, p.lawful.some_roots)

pub returns : goal.returns
returns c =
    started c.args.prepared.now.bytes.now c.args.prepared.now.playable (ap (λ r. set (replicate 1024 false) r true) c.root_of.ensures)
