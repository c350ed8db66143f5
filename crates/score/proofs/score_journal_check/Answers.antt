-- `score_journal_check`: the reply has room in an answer.
use Rattle.std.proofs.Common.{arith}
use Rattle.score.proofs.ScoreJournalCheck.{called_fits}
use Rattle.score.proofs.score_journal_check.Goals as goal

pub of_run_reply-requires : goal.of_run_reply-requires
of_run_reply-requires c = called_fits (record { few = omega (arith, c.well_formed.1.0.1); small = λ i. omega (arith, c.type_inv.journal i) }) c.call.ensures
