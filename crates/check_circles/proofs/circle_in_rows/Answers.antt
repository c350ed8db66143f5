-- `check_circles::circle_in_rows`: the first procedure that its own row marks, if one does.
use Rattle.std.proofs.Common.{◌≡◌, true, false, rules, tests}
use Rattle.std.proofs.lemmas.Iterator.{serves_from_Range, first_from_Range}
use Rattle.format.specs.Decode.{decode}
use Rattle.check_calls.specs.Calls.{called}
use Rattle.check_circles.proofs.Circle.{calls_known, roots_are, few_procedures, lowest_marked}
use Rattle.check_circles.proofs.circle_in_rows.Goals as goal

pub close-requires-clause-procedures_le_most_procedures : goal.close-requires-clause-procedures_le_most_procedures
close-requires-clause-procedures_le_most_procedures c =
    few_procedures c.args.s.now c.requires.faultless c.args.head c.requires.head_value

pub find-requires-clause-callable : goal.find-requires-clause-callable
find-requires-clause-callable c =
    let few = few_procedures c.args.s.now c.requires.faultless c.args.head c.requires.head_value in
    serves_from_Range (λ x q k. search rules) (λ x le lt. search rules)

pub returns : goal.returns
returns c =
    let s = c.args.s.now in
    let h = c.requires.faultless in
    let head = c.args.head in
    let e = c.requires.head_value in
    let rows = c.close.new.rows in
    lowest_marked (decode s) head.procedures (roots_are s h head e) (few_procedures s h head e) (calls_known s h)
    _ c.mark_direct.ensures rows c.close.ensures c.find.result
    (first_from_Range _ _ _ c.find.result
    (λ p. called rows p p ≡ true)
    (λ p. called rows p p ≡ false)
    c.find.ensures.ran
    (λ x q k. search (rules, tests))
    (λ x q k. search (rules, tests)))
