-- The words differ where the status or an output does.
use Rattle.std.proofs.Common.{◌≡◌, not, ap, sym, ◌∙◌}
use Rattle.std.proofs.lemmas.Slice.Eq.{slice_eq-Decides}
use Rattle.std.specs.Cmp.{booleans_Decides}
use borrow.Author.Tests.{ne_eqb}
use mathlib.Core.Bool.{beq}
use lib.Pointwise.{pointwise}
use Rattle.words.specs.Word.{words}
use Rattle.journal_form.specs.Form.{status_in}
use Rattle.journal_check.proofs.Others.{some_word, status_differs, outputs_decide}
use Rattle.journal_check.proofs.differs_from.Goals as goal

pub word_at-requires : goal.word_at-requires
word_at-requires c = some_word c.requires.formed

pub returns-then-number-status : goal.returns-then-number-status
returns-then-number-status c =
    let r = c.requires in
    let is : c.number.result ≡ status_in c.word_at.result = c.number.ensures in
    ap not (ne_eqb _ _ c.if-number-status.true
    ∙ sym (status_differs (words c.args.here.now) r.formed c.args.status r.status_bound c.args.out.now r.out_len (λ e. c.if-number-status.true (is ∙ ap status_in c.word_at.ensures ∙ e))))

pub returns-else-number-status : goal.returns-else-number-status
returns-else-number-status c =
    let r = c.requires in
    let is : c.number.result ≡ status_in c.word_at.result = c.number.ensures in
    c.ne.ensures
    ∙ ap not (outputs_decide (words c.args.here.now) r.formed c.args.status r.status_bound c.args.out.now r.out_len (sym (is ∙ ap status_in c.word_at.ensures) ∙ c.if-number-status.false)
    (slice_eq-Decides booleans_Decides _ _ _ (ap (λ l. pointwise beq l c.args.out.now) (c.as_slice.ensures ∙ c.tokens_in-said.ensures))))
