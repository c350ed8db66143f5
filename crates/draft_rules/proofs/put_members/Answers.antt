-- `put_members`: there is room for the rules from a set, and they follow those from the sets before it.
use mathlib.Core.List.{map}
use Rattle.std.proofs.Common.{◌≡◌, refl, sym, ap, ◌∙◌, [], ◌+◌, ◌<◌, length, get_or, take, arith}
use Rattle.std.proofs.Math.Seq.{take_all}
use Rattle.draft_language.proofs.Carries.{member_rule}
use Rattle.draft_pairs.specs.Pairs.{set_in}
use Rattle.draft_pairs.specs.Rows.{row_value}
use Rattle.encoding.specs.Encode.{rule_word}
use Rattle.bits.specs.Put.{put}
use Rattle.bits.proofs.Put.{put_none}
use Rattle.draft_plain.specs.Plain.{member_rules}
use Rattle.draft_gathering.specs.Gathered.{sets_in}
use Rattle.draft_rules.specs.SetRules.{set_rules}
use Rattle.draft_rules.proofs.Members.{sets_count, sets_put, sets_room}
use Rattle.draft_rules.proofs.Asked.{sets_all, tokens_fit, set_there, set_token_fits, set_members, set_known}
use Rattle.draft_rules.proofs.put_members.Goals as goal

pub loop-k-init : goal.loop-k-init
loop-k-init c = (refl, omega arith, sym (put_none c.args.from c.args.plain.now))

pub overflow_add-n : goal.overflow_add-n
overflow_add-n c = omega (arith, set_token_fits c.args.source.gathered c.loop-k.k c.loop-k-test.true)

pub put_set-at-requires-clause-tokens_le_most_tokens : goal.put_set-at-requires-clause-tokens_le_most_tokens
put_set-at-requires-clause-tokens_le_most_tokens c = omega (arith, tokens_fit c.args.source.gathered)

pub put_set-at-requires-clause-conclusion_lt_most_tokens : goal.put_set-at-requires-clause-conclusion_lt_most_tokens
put_set-at-requires-clause-conclusion_lt_most_tokens c = set_token_fits c.args.source.gathered c.loop-k.k c.loop-k-test.true

pub put_set-at-requires-clause-by_index : goal.put_set-at-requires-clause-by_index
put_set-at-requires-clause-by_index c = set_known c.args.source.gathered c.loop-k.k c.loop-k-test.true

pub put_set-at-requires-clause-set_in_bounds : goal.put_set-at-requires-clause-set_in_bounds
put_set-at-requires-clause-set_in_bounds c =
    let g = c.args.source.gathered in
    let l = c.loop-k in
    omega (
      arith,
      sets_room c.args.source.n.tokens (sets_in c.args.source.draft.now) l.k (set_there g l.k c.loop-k-test.true),
      l.invariant.1,
      ap length (set_members g l.k c.loop-k-test.true),
    )

pub loop-k-preserved : goal.loop-k-preserved
loop-k-preserved c =
    let a = c.args in
    let g = c.args.source.gathered in
    let l = c.loop-k in
    let u = a.source.n.tokens in
    let sets = sets_in a.source.draft.now in
    let h : l.k < length sets = set_there g l.k c.loop-k-test.true in
    let its = set_members g l.k c.loop-k-test.true in
    let room = sets_room u sets l.k h in
    let rules = set_rules (u + l.k) (set_in (row_value (get_or (take a.source.n.sets a.source.sets.now) l.k []))) in (
      c.put_set-at.auto.plain ∙ l.invariant.0,
      omega (arith, c.put_set-at.ensures.value, l.invariant.1, ap length its, sets_count u sets l.k h),
      sets_put u sets l.k h a.from l.at rules a.plain.now l.plain c.put_set-at.new.plain l.invariant.1 (omega arith)
          (ap (map (member_rule (u + l.k))) its) l.invariant.2 c.put_set-at.ensures.plain_after,
    )

pub returns : goal.returns
returns c =
    let a = c.args in
    let l = c.loop-k in
    let all : take l.k (sets_in a.source.draft.now) ≡ sets_in a.source.draft.now = take_all l.k (sets_in a.source.draft.now) (sets_all c.args.source.gathered l.k c.loop-k-test.false) in
    record {
      plain_after = l.invariant.2 ∙ ap (λ k. put a.from (map rule_word (member_rules a.source.n.tokens k)) a.plain.now) all;
      value = l.invariant.1 ∙ ap (λ k. a.from + length (member_rules a.source.n.tokens k)) all;
    }
