-- By the agent's kind, and by whether its token is held.
use Rattle.std.proofs.Common.{refl, sym, ap, ◌∙◌, cond, [], ◌∷◌, arith}
use mathlib.Core.List.Memᴰ
use Rattle.tcc.specs.Instant.{leaves}
use Rattle.format.proofs.Known.{agents_few, token_few, part_lower}
use Rattle.flags.specs.Flags.{set_of}
use Rattle.flags.proofs.Flags.{flag_has}
use Rattle.instant_end.specs.declared.Fate.TheVariants.{Reduced, Stays}
use Rattle.instant_end.specs.Ended.{fate_of, flagged}
use Rattle.instant_end.proofs.fate_of.Goals as goal

pub bounds-held-awaited : goal.bounds-held-awaited
bounds-held-awaited c = token_few c.args.prepared.now.playable c.args.i (sym c.agent_at.ensures ∙ c.in-When.is) (Memᴰ.head refl)

pub bounds-awake-body : goal.bounds-awake-body
bounds-awake-body c =
    let lower = part_lower c.args.prepared.now.playable.lawful c.args.i c.in-Next.body (sym c.agent_at.ensures ∙ c.in-Next.is) (Memᴰ.head refl) in
    omega (arith, lower, agents_few c.args.prepared.now.playable refl)

pub bounds-held-token : goal.bounds-held-token
bounds-held-token c = token_few c.args.prepared.now.playable c.args.i (sym c.agent_at.ensures ∙ c.in-Unless.is) (Memᴰ.head refl)

pub bounds-awake-next : goal.bounds-awake-next
bounds-awake-next c =
    let lower = part_lower c.args.prepared.now.playable.lawful c.args.i c.in-Unless.next (sym c.agent_at.ensures ∙ c.in-Unless.is) (Memᴰ.head refl) in
    omega (arith, lower, agents_few c.args.prepared.now.playable refl)

pub returns-then-held-awaited-clause-value : goal.returns-then-held-awaited-clause-value
returns-then-held-awaited-clause-value c =
    let held = c.args.held.now in
    ap (λ x. cond x Reduced Stays) (sym c.if-held-awaited.true ∙ flag_has held c.in-When.awaited) ∙ ap (fate_of (set_of held)) c.in-When.ensures

pub returns-else-held-awaited-clause-value : goal.returns-else-held-awaited-clause-value
returns-else-held-awaited-clause-value c =
    let held = c.args.held.now in
    ap (λ x. cond x Reduced Stays) (sym c.if-held-awaited.false ∙ flag_has held c.in-When.awaited) ∙ ap (fate_of (set_of held)) c.in-When.ensures

pub returns-then-held-token-clause-value : goal.returns-then-held-token-clause-value
returns-then-held-token-clause-value c =
    let held = c.args.held.now in
    ap (λ x. cond x Reduced Stays) (sym c.if-held-token.true ∙ flag_has held c.in-Unless.token) ∙ ap (fate_of (set_of held)) c.in-Unless.ensures

pub returns-then-held-token-clause-awake_after : goal.returns-then-held-token-clause-awake_after
returns-then-held-token-clause-awake_after c =
    let held = c.args.held.now in
    let awake = c.args.awake.now in
    ap (λ x. flagged (cond x [] (c.in-Unless.next ∷ [])) awake) (sym c.if-held-token.true ∙ flag_has held c.in-Unless.token)
    ∙ ap (λ a. flagged (leaves (set_of held) a) awake) c.in-Unless.ensures

pub returns-else-held-token-clause-value : goal.returns-else-held-token-clause-value
returns-else-held-token-clause-value c =
    let held = c.args.held.now in
    ap (λ x. cond x Reduced Stays) (sym c.if-held-token.false ∙ flag_has held c.in-Unless.token) ∙ ap (fate_of (set_of held)) c.in-Unless.ensures

pub returns-else-held-token-clause-awake_after : goal.returns-else-held-token-clause-awake_after
returns-else-held-token-clause-awake_after c =
    let held = c.args.held.now in
    let awake = c.args.awake.now in
    ap (λ x. flagged (cond x [] (c.in-Unless.next ∷ [])) awake) (sym c.if-held-token.false ∙ flag_has held c.in-Unless.token)
    ∙ ap (λ a. flagged (leaves (set_of held) a) awake) c.in-Unless.ensures
