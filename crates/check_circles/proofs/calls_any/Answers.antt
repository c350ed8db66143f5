-- `check_circles::calls_any`: whether a root's set is not 0.
use Rattle.std.proofs.Common.{◌≡◌, ◌≢◌, get_or, refl, rules, arith, tests}
use Rattle.std.proofs.lemmas.Iterator.{serves_from_Range, YieldsList-from_range, cases_from_any}
use native.Mathlib.Nat.{sub-zero}
use Rattle.tcc.specs.Score.{root_of}
use Rattle.format.specs.Decode.{decode}
use Rattle.check_circles.proofs.Circle.{calls_known, roots_are, few_procedures, few_agents, root_below, roots_below, calls_exact}
use Rattle.check_circles.proofs.calls_any.Goals as goal

pub any-requires-clause-callable : goal.any-requires-clause-callable
any-requires-clause-callable c =
    let few = few_agents c.args.s.now c.requires.faultless c.args.head c.requires.head_value in
    let below = root_below c.args.s.now c.requires.faultless c.args.head c.requires.head_value in
    serves_from_Range (λ x q k. search rules) (λ x le lt. search rules)

pub returns : goal.returns
returns c =
    let s = c.args.s.now in
    let sets = c.args.sets.now in
    let h = c.requires.faultless in
    let head = c.args.head in
    let e = c.requires.head_value in
    let n = head.procedures in
    let count = roots_are s h head e in
    calls_exact (decode s) head.agents sets c.requires.gathered (roots_below s h head e)
    (calls_known s h)
    (omega (arith, few_procedures s h head e))
    (λ r. omega (arith, c.type_inv.sets r))
    n count c.any.result
    (cases_from_any _ _ _
    (λ p. get_or sets (root_of (decode s) p) 0 ≢ 0)
    (λ p. get_or sets (root_of (decode s) p) 0 ≡ 0)
    c.any.ensures.ran
    (YieldsList-from_range 0 n n refl (sub-zero n))
    (λ x q k. search (rules, tests))
    (λ x q k. search (rules, tests)))
