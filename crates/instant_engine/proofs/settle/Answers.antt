-- Passes add to the marks until one finds nothing to add; closing the store takes no token away.
use Rattle.std.proofs.Common.{◌≡◌, sym, ap, ◌∙◌, ℕ, ◌≤◌, List, Bool, cond, length, arith, rules}
use mathlib.Core.Path.{subst⁻¹}
use Rattle.tcc.specs.Score.{Score}
use Rattle.tcc.specs.Lawful.{Lawful}
use Rattle.tcc.specs.Store.{closure}
use Rattle.tcc.specs.FixedPoint.{Marked, Sound}
use Rattle.format.specs.Decode.{decode}
use Rattle.flags.specs.Flags.{set_of, flags_of}
use Rattle.flags.proofs.Flags.{member_within, set_length_le, set_more, flags_of_length}
use Rattle.instant_engine.specs.Marks.{Shut}
use Rattle.instant_engine.proofs.Closing.{closed_shut, closed_above}
use Rattle.instant_engine.proofs.Settling.{settling_none, settling_more, starts_sound, settled}
use Rattle.instant_engine.proofs.settle.Goals as goal

no_fewer : (sc : Score) (held closed : List Bool) → Lawful sc → length held ≡ 256 → closed ≡ flags_of 256 (closure sc (set_of held)) → length (set_of held) ≤ length (set_of closed)
no_fewer sc held closed lawful long e =
    subst⁻¹ (λ l. length (set_of held) ≤ length (set_of l)) e
    (set_more held (flags_of 256 (closure sc (set_of held))) (flags_of_length 256 (closure sc (set_of held)) ∙ sym long)
    (λ t m. closed_above sc lawful (set_of held) t (omega (arith, member_within held m)) m))

pub loop-held-init : goal.loop-held-init
loop-held-init c =
    let sc = decode c.args.prepared.now.bytes.now in
    settling_none sc (set_of c.args.live.now) (set_of c.closed.new.store)
    (subst⁻¹ (λ l. Shut sc (set_of l)) c.closed.ensures.closes (closed_shut sc c.args.prepared.now.playable.lawful (set_of c.args.inputs)))

pub loop-held-smaller : goal.loop-held-smaller
loop-held-smaller c =
    let sc = decode c.args.prepared.now.bytes.now in
    let p = c.pass in
    let held = c.closed-in-loop-held.new.store in
    let closes = c.closed-in-loop-held.ensures.closes in
    let long : length held ≡ 256 = ap length closes ∙ flags_of_length 256 (closure sc (set_of p.new.held)) in
    let more = no_fewer sc p.new.held held c.args.prepared.now.playable.lawful p.ensures.long_held closes in
    omega (arith, p.ensures.larger, ap {B = ℕ} (λ x. cond x 1 0) c.loop-held-test.true, more, set_length_le p.new.live, p.ensures.long_live, set_length_le held, long)

pub loop-held-preserved : goal.loop-held-preserved
loop-held-preserved c =
    let l = c.loop-held in
    let p = c.pass in
    settling_more (decode c.args.prepared.now.bytes.now) (set_of c.args.live.now) (set_of c.closed.new.store) l.live l.held p.new.live p.new.held p.result
    l.invariant p.ensures c.args.prepared.now.playable.lawful c.closed-in-loop-held.new.store c.closed-in-loop-held.ensures.closes

pub returns : goal.returns
returns c =
    let sc = decode c.args.prepared.now.bytes.now in
    let lawful = c.args.prepared.now.playable.lawful in
    let l = c.loop-held in
    let p = c.pass in
    let lives = set_of c.args.live.now in
    let inputs = c.args.inputs in
    let long : length inputs ≡ 256 = search rules in
    settled sc lives (set_of c.closed.new.store) l.live l.held p.new.live p.new.held p.result l.invariant p.ensures c.loop-held-test.false (set_of inputs)
    (subst⁻¹ (λ h. Sound sc lives (set_of inputs) (Marked lives) (Marked (set_of h))) c.closed.ensures.closes (starts_sound sc lawful lives (set_of inputs)))
    (λ t m. subst⁻¹ (λ h. Marked (set_of h) t) c.closed.ensures.closes (closed_above sc lawful (set_of inputs) t (omega (arith, member_within inputs m)) m))
