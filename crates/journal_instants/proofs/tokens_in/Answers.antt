-- `tokens_in`: a word of the kind brings its token, and no other does.
use Rattle.std.proofs.Common.{sym, ◌∙◌, arith}
use Rattle.words.specs.Word.{words}
use Rattle.words.proofs.Field.{field_below}
use Rattle.journal_instants.proofs.Tokens.{tokens_none, tokens_more, tokens_other, tokens_all}
use Rattle.journal_instants.proofs.tokens_in.Goals as goal
use Rattle.journal_instants.proofs.tokens_in.Goals.{then-bits-kind, else-bits-kind}

pub loop-k-init : goal.loop-k-init
loop-k-init c = tokens_none c.args.kind (words c.args.bytes.now)

pub bounds-flags-number : goal.bounds-flags-number
bounds-flags-number c = omega (arith, field_below c.word_at-w.result 0 8, c.number.ensures)

pub loop-k-preserved : goal.loop-k-preserved
loop-k-preserved c =
    let kind = c.args.kind in
    let l = c.loop-k in
    let ws = words c.args.bytes.now in
    let word = c.word_at-w.ensures in
    elim c.if-bits-kind.branch [
      | then-bits-kind w ↦ w.flags-is ∙ tokens_more kind ws l.k (omega arith) word l.invariant (sym c.bits.ensures ∙ w.if-bits-kind.true) w.number.ensures
      | else-bits-kind w ↦ w.flags-is ∙ tokens_other kind ws l.k (omega arith) word l.invariant (λ e. w.if-bits-kind.false (c.bits.ensures ∙ e))
    ]

pub returns : goal.returns
returns c = c.loop-k.invariant ∙ tokens_all c.args.kind (words c.args.bytes.now) c.loop-k.k (omega arith)
