-- `member_count`: each set has the draft's tokens alone, and as many rules as tokens.
use Rattle.std.proofs.Common.{ap, ◌∙◌, length, get_or, take, [], arith, length-take}
use Rattle.draft_pairs.specs.Rows.{row_value}
use Rattle.draft_plain.specs.Plain.{member_rules}
use Rattle.draft_gathering.proofs.Members.{held_in_lem}
use Rattle.draft_gathering.proofs.Keys.{row_member, keys_all, rules_counted}
use Rattle.draft_gathering.proofs.asked.member_count.Goals as goal

pub token_count-n-requires-clause-by_index : goal.token_count-n-requires-clause-by_index
token_count-n-requires-clause-by_index c =
    let sets = take c.args.count c.args.sets.now in
    let k = c.loop-set.set-index in
    let key = row_value (get_or sets k []) in
    λ t h. c.requires.tokens_below key (row_member sets k c.loop-set-test.true) t (held_in_lem key t h)

pub loop-set-preserved : goal.loop-set-preserved
loop-set-preserved c =
    let sets = take c.args.count c.args.sets.now in
    record {
      few = omega arith;
      rules = rules_counted c.args.tokens sets c.loop-set.set-index {n = c.loop-set.n} c.loop-set-test.true c.loop-set.invariant.rules c.token_count-n.ensures.value;
    }

pub returns : goal.returns
returns c =
    let sets = take c.args.count c.args.sets.now in
    record {
      value = c.loop-set.invariant.rules ∙ ap (λ l. length (member_rules c.args.tokens l)) (keys_all c.loop-set.set-index sets c.loop-set-test.false);
      upper_bound = omega (arith, length-take c.args.count c.args.sets.now);
    }
