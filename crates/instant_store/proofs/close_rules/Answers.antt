-- Each pass so far has added a token. The count is what the loop ends by: it never passes 257.
use Rattle.std.proofs.Common.{arith, rules}
use borrow.Author.Tests.{eqb-false}
use Rattle.format.specs.Decode.{decode}
use Rattle.instant_store.proofs.Repeats.{conclusions_flagged, repeating_none, repeating_more, repeating_few, repeating_all}
use Rattle.instant_store.proofs.close_rules.Goals as goal

pub loop-added-init : goal.loop-added-init
loop-added-init c = repeating_none (decode c.args.prepared.now.bytes.now) c.args.store.now (search rules)

pub rule_pass-added-requires : goal.rule_pass-added-requires
rule_pass-added-requires c = λ later. c.loop-added.invariant.facts_in (eqb-false _ _ later)

pub overflow_add-passes : goal.overflow_add-passes
overflow_add-passes c =
    let l = c.loop-added in
    omega (arith, repeating_few (decode c.args.prepared.now.bytes.now) c.args.store.now l.store l.passes l.invariant)

pub returns : goal.returns
returns c =
    let l = c.loop-added in
    repeating_all (decode c.args.prepared.now.bytes.now) c.args.store.now l.store c.rule_pass-added.new.store l.passes c.rule_pass-added.result l.invariant c.rule_pass-added.ensures (omega arith)

pub loop-added-smaller : goal.loop-added-smaller
loop-added-smaller c =
    let l = c.loop-added in
    omega (arith, repeating_few (decode c.args.prepared.now.bytes.now) c.args.store.now l.store l.passes l.invariant)

pub loop-added-preserved : goal.loop-added-preserved
loop-added-preserved c =
    let s = c.args.prepared.now.bytes.now in
    let l = c.loop-added in
    repeating_more (decode s) c.args.store.now l.store c.rule_pass-added.new.store l.passes c.rule_pass-added.result l.invariant c.rule_pass-added.ensures
    (conclusions_flagged s l.store l.invariant.long)
    (omega arith)
