-- The agents from i on are passed.
use Rattle.std.proofs.Common.{◌≡◌, refl, sym, subst, ◌∙◌, false, ℕ, ◌+◌, ◌-◌, ◌<◌, ◌≤◌, List, Bool, true, get_or, arith, rules}
use mathlib.Core.List.Memᴰ
use Rattle.laws.proofs.Booleans.{true_is_false}
use Rattle.format.specs.Decode.{sizes, decode}
use Rattle.format.specs.Playable.{Playable}
use Rattle.format.proofs.Known.{agents_all, agents_few, token_few, procedure_known}
use Rattle.flags.proofs.Flags.{member_flag}
use Rattle.instant_marks.specs.Passed.{Passed}
use Rattle.instant_marks.proofs.Passing.{passed_none, passed_by, Coming, part_few, tells_new, tells_held, splits, answers, waits, calls_new, calls_live}
use Rattle.instant_marks.proofs.pass.Goals as goal

module _ {s : List ℕ} (p : Playable s) {agents : ℕ} (says : agents ≡ (sizes s).agents) where
  few : agents ≤ 1024
  few = omega (arith, agents_few p refl)

  -- agent i - 1 comes next, and is live
  coming : {i : ℕ} {live₀ held₀ live held : List Bool} {grew : Bool} → 0 < i → i ≤ agents → Passed (decode s) i live₀ held₀ live held grew →
      get_or live (i - 1) false ≡ true → Coming (decode s) (i - 1) live₀ held₀ live held grew
  coming {i} {live₀} {held₀} {live} {held} {grew} some most passed here =
      let next : i ≡ i - 1 + 1 = omega arith in
      record {
        lawful = p.lawful;
        known = omega (arith, few);
        passed = subst (λ n. Passed (decode s) n live₀ held₀ live held grew) next passed;
        here = here;
      }

pub loop-i-init : goal.loop-i-init
loop-i-init c =
    let p = c.args.prepared.now.playable in
    passed_none (decode c.args.prepared.now.bytes.now) c.args.live.now c.args.held.now c.agents-i.result (search rules) (search rules)
    (omega (arith, agents_all p refl, c.agents-i.ensures))

pub bounds-live-i : goal.bounds-live-i
bounds-live-i c = omega (arith, few c.args.prepared.now.playable c.agents-i.ensures)

pub bounds-held-token : goal.bounds-held-token
bounds-held-token c = token_few c.args.prepared.now.playable (c.loop-i.i - 1) (sym c.agent_at.ensures ∙ c.in-Tell.is) (Memᴰ.head refl)

pub bounds-held-token-then-not-held-token : goal.bounds-held-token-then-not-held-token
bounds-held-token-then-not-held-token c = token_few c.args.prepared.now.playable (c.loop-i.i - 1) (sym c.agent_at.ensures ∙ c.in-Tell.is) (Memᴰ.head refl)

pub loop-i-preserved-then-not-held-token : goal.loop-i-preserved-then-not-held-token
loop-i-preserved-then-not-held-token c =
    let g = coming c.args.prepared.now.playable c.agents-i.ensures c.loop-i-test.true c.loop-i.auto.i c.loop-i.invariant c.if-live-i.true in
    tells_new g (sym c.agent_at.ensures ∙ c.in-Tell.is) c.if-not-held-token.true

pub loop-i-preserved-else-not-held-token : goal.loop-i-preserved-else-not-held-token
loop-i-preserved-else-not-held-token c =
    let g = coming c.args.prepared.now.playable c.agents-i.ensures c.loop-i-test.true c.loop-i.auto.i c.loop-i.invariant c.if-live-i.true in
    tells_held g (sym c.agent_at.ensures ∙ c.in-Tell.is) c.if-not-held-token.false

pub bounds-live-a : goal.bounds-live-a
bounds-live-a c =
    let g = coming c.args.prepared.now.playable c.agents-i.ensures c.loop-i-test.true c.loop-i.auto.i c.loop-i.invariant c.if-live-i.true in
    part_few g c.in-Parallel.a (sym c.agent_at.ensures ∙ c.in-Parallel.is) (Memᴰ.head refl)

pub bounds-live-b : goal.bounds-live-b
bounds-live-b c =
    let g = coming c.args.prepared.now.playable c.agents-i.ensures c.loop-i-test.true c.loop-i.auto.i c.loop-i.invariant c.if-live-i.true in
    part_few g c.in-Parallel.b (sym c.agent_at.ensures ∙ c.in-Parallel.is) (Memᴰ.tail (Memᴰ.head refl))

pub loop-i-preserved-in-Parallel : goal.loop-i-preserved-in-Parallel
loop-i-preserved-in-Parallel c =
    let g = coming c.args.prepared.now.playable c.agents-i.ensures c.loop-i-test.true c.loop-i.auto.i c.loop-i.invariant c.if-live-i.true in
    splits g (sym c.agent_at.ensures ∙ c.in-Parallel.is)

pub bounds-held-token-in-When : goal.bounds-held-token-in-When
bounds-held-token-in-When c = token_few c.args.prepared.now.playable (c.loop-i.i - 1) (sym c.agent_at.ensures ∙ c.in-When.is) (Memᴰ.head refl)

pub bounds-live-body : goal.bounds-live-body
bounds-live-body c =
    let g = coming c.args.prepared.now.playable c.agents-i.ensures c.loop-i-test.true c.loop-i.auto.i c.loop-i.invariant c.if-live-i.true in
    part_few g c.in-When.body (sym c.agent_at.ensures ∙ c.in-When.is) (Memᴰ.head refl)

pub loop-i-preserved-then-held-token : goal.loop-i-preserved-then-held-token
loop-i-preserved-then-held-token c =
    let g = coming c.args.prepared.now.playable c.agents-i.ensures c.loop-i-test.true c.loop-i.auto.i c.loop-i.invariant c.if-live-i.true in
    answers g (sym c.agent_at.ensures ∙ c.in-When.is) c.if-held-token.true

pub loop-i-preserved-else-held-token : goal.loop-i-preserved-else-held-token
loop-i-preserved-else-held-token c =
    let g = coming c.args.prepared.now.playable c.agents-i.ensures c.loop-i-test.true c.loop-i.auto.i c.loop-i.invariant c.if-live-i.true in
    waits g (sym c.agent_at.ensures ∙ c.in-When.is) c.if-held-token.false

pub root_of-root-requires : goal.root_of-root-requires
root_of-root-requires c = procedure_known c.args.prepared.now.playable (c.loop-i.i - 1) (sym c.agent_at.ensures ∙ c.in-Call.is) (Memᴰ.head refl)

pub loop-i-preserved-then-not-live-root : goal.loop-i-preserved-then-not-live-root
loop-i-preserved-then-not-live-root c =
    let g = coming c.args.prepared.now.playable c.agents-i.ensures c.loop-i-test.true c.loop-i.auto.i c.loop-i.invariant c.if-live-i.true in
    calls_new g (sym c.agent_at.ensures ∙ c.in-Call.is) c.root_of-root.result c.root_of-root.ensures c.if-not-live-root.true

pub loop-i-preserved-else-not-live-root : goal.loop-i-preserved-else-not-live-root
loop-i-preserved-else-not-live-root c =
    let g = coming c.args.prepared.now.playable c.agents-i.ensures c.loop-i-test.true c.loop-i.auto.i c.loop-i.invariant c.if-live-i.true in
    calls_live g (sym c.agent_at.ensures ∙ c.in-Call.is) c.root_of-root.result c.root_of-root.ensures c.if-not-live-root.false

pub loop-i-preserved : goal.loop-i-preserved
loop-i-preserved c =
    let l = c.loop-i in
    passed_by (decode c.args.prepared.now.bytes.now) l.i c.args.live.now c.args.held.now l.live l.held l.grew l.invariant (l.i - 1) (omega arith)
    (λ m. absurd (true_is_false (member_flag l.live m) c.if-live-i.false))
