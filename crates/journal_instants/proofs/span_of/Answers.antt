-- `span_of`: an instant word ends the part, and so does the end.
use Rattle.std.proofs.Common.{◌*◌, min, length, sym, ap, ◌∙◌, arith}
use Rattle.words.specs.Word.{words}
use Rattle.words.proofs.Words.{words_length}
use Rattle.journal_form.specs.Form.{is_instant}
use Rattle.journal_instants.proofs.Parts.{span_first, span_more, span_here, span_end}
use Rattle.journal_instants.proofs.span_of.Goals as goal

pub loop-k-init : goal.loop-k-init
loop-k-init c = span_first (words c.args.bytes.now)

pub overflow_mul-result : goal.overflow_mul-result
overflow_mul-result c = omega (arith, words_length c.args.bytes.now)

pub returns-then-is_instant : goal.returns-then-is_instant
returns-then-is_instant c =
    let ws = words c.args.bytes.now in
    let l = c.loop-k in
    let here = sym (c.is_instant.ensures ∙ ap is_instant c.word_at.ensures) ∙ c.if-is_instant.true in
    ap (λ n. 4 * n) (sym (l.invariant ∙ span_here l.k ws (omega arith) here))

pub loop-k-preserved : goal.loop-k-preserved
loop-k-preserved c =
    let ws = words c.args.bytes.now in
    let l = c.loop-k in
    let other = sym (c.is_instant.ensures ∙ ap is_instant c.word_at.ensures) ∙ c.if-is_instant.false in
    l.invariant ∙ ap (min (length ws)) (span_more l.k ws (omega arith) other)

pub overflow_mul-result-2 : goal.overflow_mul-result-2
overflow_mul-result-2 c = omega (arith, words_length c.args.bytes.now)

pub returns : goal.returns
returns c =
    let ws = words c.args.bytes.now in
    let l = c.loop-k in
    ap (λ n. 4 * n) (c.word_count-count.ensures ∙ sym (l.invariant ∙ span_end l.k ws (omega arith)))
