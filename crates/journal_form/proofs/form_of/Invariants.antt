-- `form_of`: the lowest word against its form is the one from word k on, after the word before it.
use Rattle.std.proofs.Common.{◌≡◌, drop}
use Rattle.words.specs.Word.{words}
use Rattle.journal_form.specs.Form.{first_against}
use Rattle.journal_form.proofs.form_of.Given as goal

abbrev pub invariant-loop-k : goal.invariant-loop-k
invariant-loop-k l =
    first_against l.journal l.tokens 0 0 (words l.bytes) ≡ first_against l.journal l.tokens l.k l.last (drop l.k (words l.bytes))
