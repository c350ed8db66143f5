-- `put_rules`: a word of a rule is copied as it stands.
use Rattle.std.proofs.Common.{refl, ◌∙◌, ◌+◌, arith}
use Rattle.format.specs.Format.{rule_of}
use Rattle.encoding.specs.Encode.{rule_word}
use Rattle.bits.proofs.Put.{putting_none, putting_more, putting_all}
use Rattle.draft_format.specs.DraftFile.{decode_draft}
use Rattle.draft_rules.proofs.Rules.{gathered_rules}
use Rattle.draft_rules.proofs.put_rules.Goals as goal

pub loop-k-init : goal.loop-k-init
loop-k-init c = (refl, putting_none rule_word (decode_draft c.args.source.draft.now).rules (2 + c.args.source.n.pairs) c.args.plain.now)

pub overflow_add-n-in-loop-k : goal.overflow_add-n-in-loop-k
overflow_add-n-in-loop-k c =
    let r = gathered_rules c.args.source.gathered in
    omega (arith, c.args.source.gathered.pairs_fit, r.whole, r.few)

pub put_word-requires : goal.put_word-requires
put_word-requires c = omega (arith, (gathered_rules c.args.source.gathered).rules_are)

pub loop-k-preserved : goal.loop-k-preserved
loop-k-preserved c =
    let a = c.args in
    let r = gathered_rules c.args.source.gathered in
    let l = c.loop-k in (
      c.put_word.auto.bytes ∙ l.invariant.0,
      putting_more rule_word (decode_draft a.source.draft.now).rules (2 + a.source.n.pairs) a.plain.now (rule_of 0) l.k (2 + a.source.n.pairs + l.k) c.word_at.result l.plain c.put_word.new.bytes
          (omega (arith, r.rules_are)) refl (omega (arith, r.rules_are)) (c.word_at.ensures ∙ r.their_words l.k (omega (arith, r.whole, r.words_are)) (omega (arith, c.word_at.ensures, c.word_at.type_inv)))
          l.invariant.1 c.put_word.ensures,
    )

pub returns : goal.returns
returns c =
    let l = c.loop-k in
    putting_all rule_word (decode_draft c.args.source.draft.now).rules (2 + c.args.source.n.pairs) c.args.plain.now l.k l.plain (omega (arith, (gathered_rules c.args.source.gathered).rules_are)) l.invariant.1
