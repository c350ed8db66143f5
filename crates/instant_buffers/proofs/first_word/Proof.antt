-- `first_word`: by the status.
use mathlib.Core.Path.{sym, ap}
use mathlib.Core.Bool.{cond}
use borrow.Author.Tests.{eq-eqb, ne_eqb}
use Rattle.lent.specs.States.{running_word, aborted_word}
use Rattle.instant_buffers.proofs.first_word.Statement.{statement}
use Rattle.instant_buffers.proofs.first_word.Tie as tie

returns : tie.Need-returns-then-status-eq2
returns c = sym (ap (λ b. cond b aborted_word running_word) (eq-eqb c.args.status 2 c.if-status-eq2.true))

returns_2 : tie.Need-returns-else-status-eq2
returns_2 c = sym (ap (λ b. cond b aborted_word running_word) (ne_eqb c.args.status 2 c.if-status-eq2.false))

pub first_word_spec : {M : Type 1} → statement M
first_word_spec = tie.close (tie.spec returns returns_2)
