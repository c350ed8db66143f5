-- `put_procedures`: each root is the plain score's.
use Rattle.std.proofs.Common.{refl, ap, ◌∙◌, ◌+◌, arith, rules}
use Rattle.draft_plain.specs.Plain.{plain_of}
use Rattle.encoding.specs.Encode.{root_word}
use Rattle.bits.proofs.Put.{putting_none, putting_more, putting_all}
use Rattle.draft_format.specs.DraftFile.{decode_draft}
use Rattle.draft_words.proofs.Pairs.{procedures_many, roots_all, root_few, root_entry, root_here, root_fits}
use Rattle.draft_words.proofs.put_procedures.Goals as goal

pub offset_bounds-table-n : goal.offset_bounds-table-n
offset_bounds-table-n c = let many = procedures_many c.args.source.gathered in let few = c.args.source.gathered.pairs_fit in omega arith

pub slice_bounds-row-items-count : goal.slice_bounds-row-items-count
slice_bounds-row-items-count c = omega (arith, procedures_many c.args.source.gathered)

pub slice_bounds-row-items-start : goal.slice_bounds-row-items-start
slice_bounds-row-items-start c = let many = procedures_many c.args.source.gathered in let few = c.args.source.gathered.pairs_fit in search rules

pub loop-k-init : goal.loop-k-init
loop-k-init c = (refl, putting_none root_word (plain_of (decode_draft c.args.source.draft.now)).roots (2 + c.args.source.n.copied) c.args.plain.now)

pub root_at-requires : goal.root_at-requires
root_at-requires c = record { fact = root_entry c.args.source.gathered c.loop-k.k c.loop-k-test.true }

pub root_word-w-requires : goal.root_word-w-requires
root_word-w-requires c =
    let g = c.args.source.gathered in
    omega (arith, c.root_at.ensures ∙ root_here g c.loop-k.k c.loop-k-test.true, root_fits g c.loop-k.k c.loop-k-test.true)

pub loop-k-preserved : goal.loop-k-preserved
loop-k-preserved c =
    let g = c.args.source.gathered in
    let l = c.loop-k in
    let made = c.root_at.ensures ∙ root_here g l.k c.loop-k-test.true in (
      c.put_word.auto.bytes ∙ l.invariant.0,
      putting_more root_word (plain_of (decode_draft c.args.source.draft.now)).roots (2 + c.args.source.n.copied) c.args.plain.now 0 l.k (2 + c.args.source.n.copied + l.k) c.root_word-w.result l.plain c.put_word.new.bytes
          (root_few g l.k c.loop-k-test.true) refl (omega arith) (c.root_word-w.ensures ∙ ap root_word made) l.invariant.1 c.put_word.ensures,
    )

pub returns : goal.returns
returns c =
    let l = c.loop-k in
    putting_all root_word (plain_of (decode_draft c.args.source.draft.now)).roots (2 + c.args.source.n.copied) c.args.plain.now l.k l.plain (roots_all c.args.source.gathered l.k c.loop-k-test.false) l.invariant.1
