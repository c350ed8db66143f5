-- `form_of`: where a word has its form, those after it are looked at; where not, it is the lowest against it.
use Rattle.std.proofs.Common.{sym, ◌∙◌, arith}
use Rattle.words.specs.Word.{words}
use Rattle.journal_form.proofs.Against.{form_bytes, form_words, against_good, against_here, against_end}
use Rattle.journal_form.proofs.form_of.Goals as goal

pub returns-then-bytes-ne0 : goal.returns-then-bytes-ne0
returns-then-bytes-ne0 c = sym (form_bytes c.args.journal c.args.tokens c.args.bytes.now c.if-bytes-ne0.true)

pub returns-then-not-may_follow : goal.returns-then-not-may_follow
returns-then-not-may_follow c =
    let a = c.args in
    let l = c.loop-k in
    let here = against_here a.journal a.tokens l.last l.k (words a.bytes.now) (omega arith) c.word_at-w.ensures c.may_follow.ensures c.if-not-may_follow.true in
    sym (form_words a.journal a.tokens a.bytes.now c.if-bytes-ne0.false ∙ l.invariant ∙ here)

pub loop-k-preserved : goal.loop-k-preserved
loop-k-preserved c =
    let a = c.args in
    let l = c.loop-k in
    l.invariant
    ∙ against_good a.journal a.tokens l.last l.k (words a.bytes.now) (omega arith) c.word_at-w.ensures c.may_follow.ensures c.if-not-may_follow.false

pub returns : goal.returns
returns c =
    let a = c.args in
    let l = c.loop-k in
    let end = against_end a.journal a.tokens l.last l.k (words a.bytes.now) (omega arith) in
    sym (form_words a.journal a.tokens a.bytes.now c.if-bytes-ne0.false ∙ l.invariant ∙ end)
