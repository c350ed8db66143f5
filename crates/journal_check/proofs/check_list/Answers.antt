-- An instant is read at each turn.
use Rattle.std.proofs.Common.{arith}
use Rattle.journal_check.proofs.Checks.{checking_none, checking_end, next, first_formed, checking_unlawful, checking_differs, checking_last, checking_more}
use Rattle.journal_check.proofs.check_list.Goals as goal

pub loop-at-init : goal.loop-at-init
loop-at-init c = record {
  checking = checking_none c.args.prepared.now.bytes.now c.args.journal.now c.start-stands.result c.args.prepared.now.playable c.requires.journal_value (λ i. omega (arith, c.type_inv.journal i)) c.start-stands.ensures;
  scratch_is = c.requires.scratch_value;
}

pub check_instant-requires-clause-formed : goal.check_instant-requires-clause-formed
check_instant-requires-clause-formed c =
    first_formed (record { checking = c.loop-at.invariant.checking; not_end = c.loop-at-test.true; is = c.part-here.ensures })

pub returns-in-Err-Unlawful-clause-value : goal.returns-in-Err-Unlawful-clause-value
returns-in-Err-Unlawful-clause-value c =
    checking_unlawful (record { checking = c.loop-at.invariant.checking; not_end = c.loop-at-test.true; is = c.part-here.ensures })
    (rw c.in-Err-Unlawful.field-0-is at c.in-Err-Unlawful.ensures.held)

pub returns-in-Err-Differs-clause-value : goal.returns-in-Err-Differs-clause-value
returns-in-Err-Differs-clause-value c =
    checking_differs (record { checking = c.loop-at.invariant.checking; not_end = c.loop-at-test.true; is = c.part-here.ensures })
    (rw c.in-Err-Differs.field-0-is at c.in-Err-Differs.ensures.held)

pub returns-then-instants-clause-value : goal.returns-then-instants-clause-value
returns-then-instants-clause-value c =
    checking_last (record { checking = c.loop-at.invariant.checking; not_end = c.loop-at-test.true; is = c.part-here.ensures })
    c.in-Ok.ensures.held c.if-instants.true

pub loop-at-smaller : goal.loop-at-smaller
loop-at-smaller c =
    let n = next (record { checking = c.loop-at.invariant.checking; not_end = c.loop-at-test.true; is = c.part-here.ensures }) in
    omega (arith, n.some, c.loop-at-test.true)

pub loop-at-preserved : goal.loop-at-preserved
loop-at-preserved c = record {
  checking =
      checking_more (record { checking = c.loop-at.invariant.checking; not_end = c.loop-at-test.true; is = c.part-here.ensures })
      c.in-Ok.ensures.held c.if-instants.false;
  scratch_is = c.in-Ok.ensures.scratch_after;
}

pub returns-clause-value : goal.returns-clause-value
returns-clause-value c = checking_end c.loop-at.invariant.checking c.loop-at-test.false
