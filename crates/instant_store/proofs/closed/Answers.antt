-- What the passes leave derives from the tokens and follows the rules; the clash brings the rest.
use Rattle.std.proofs.Common.{sym, ◌∙◌, rules, arith}
use mathlib.Core.Path.{subst}
use Rattle.format.specs.Decode.{decode}
use Rattle.format.proofs.Decode.{decode_tokens, sizes_few}
use Rattle.flags.specs.Flags.{set_of}
use Rattle.instant_store.specs.Passes.{Flooded}
use Rattle.instant_store.proofs.Repeats.{conclusions_flagged}
use Rattle.instant_store.proofs.Settles.{drawn_repeated, follows_repeated, closed_calm, closed_clash}
use Rattle.instant_store.proofs.closed.Goals as goal

pub flood-requires : goal.flood-requires
flood-requires c = omega (arith, sizes_few c.args.prepared.now.bytes.now, c.tokens.ensures)

pub returns-then-store-offset0-clause-closes : goal.returns-then-store-offset0-clause-closes
returns-then-store-offset0-clause-closes c =
    let s = c.args.prepared.now.bytes.now in
    let before = c.args.store.now in
    let passes = c.close_rules-passes in
    let store = passes.new.store in
    let drawn = drawn_repeated (decode s) before store passes.result (search rules) passes.ensures in
    let follows = follows_repeated (decode s) before store passes.result (conclusions_flagged s store drawn.long) passes.ensures in
    closed_clash (decode s) (set_of before) store drawn follows c.flood.new.store c.args.prepared.now.playable.lawful c.if-store-offset0.true
    (subst (λ n. Flooded n store c.flood.new.store) (c.tokens.ensures ∙ sym (decode_tokens s)) c.flood.ensures)

pub returns-else-store-offset0-clause-closes : goal.returns-else-store-offset0-clause-closes
returns-else-store-offset0-clause-closes c =
    let s = c.args.prepared.now.bytes.now in
    let before = c.args.store.now in
    let passes = c.close_rules-passes in
    let store = passes.new.store in
    let drawn = drawn_repeated (decode s) before store passes.result (search rules) passes.ensures in
    let follows = follows_repeated (decode s) before store passes.result (conclusions_flagged s store drawn.long) passes.ensures in
    closed_calm (decode s) (set_of before) store drawn follows c.if-store-offset0.false
