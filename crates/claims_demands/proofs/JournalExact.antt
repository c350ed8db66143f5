-- The journal is the history, and the journal check accepts exactly it.
--     exactly            the check answers 0 with n exactly if the bytes are the journal of n instants
--     runs_accepted      what a run writes from the start state is such a journal
--     journal_exact      both: the theorem
use mathlib.Core.Path.{refl, sym, ap, ◌∙◌}
use lib.ListN.{take}
use Rattle.bits.specs.Bits.{bytes_of}
use Rattle.journal_instants.specs.Instants.{input_lists}
use Rattle.score_answer.specs.Answer.{number_of, value_of}
use Rattle.score_answer.specs.Replies.{of_run_reply}
use Rattle.score.proofs.ScoreJournalCheck.{read}
use Rattle.claims_demands.specs.Calls.{written}
use Rattle.claims_demands.specs.JournalExact.{Exactly, start_history, RunsAccepted, JournalExact}
use Rattle.claims_demands.proofs.Runs.{taken_rises}
use Rattle.claims_demands.proofs.JournalRuns.{run_writes, run_count, run_below}
use Rattle.claims_demands.proofs.JournalChecks.{history_accepted, accepted_history}

pub exactly : Exactly
exactly score journal before after answer n accepted long c =
    let r = read score journal before after answer c in (
      λ e. accepted_history score accepted journal before long c.lent n (sym r.number ∙ e.0) (sym r.value ∙ e.1),
      λ h few.
          let e = history_accepted score accepted journal before long n h few in
          (r.number ∙ ap (λ x. number_of (of_run_reply x)) e, r.value ∙ ap (λ x. value_of (of_run_reply x)) e),
    )

pub runs_accepted : RunsAccepted
runs_accepted score inputs before after answer accepted at c = (
  run_writes score inputs before after answer c accepted at,
  λ scratch scratch' checked long d.
      (exactly score (bytes_of (start_history score inputs (written answer))) scratch scratch' checked (written answer) accepted long d).1
      (record { inputs = take (written answer) (input_lists inputs); rising = taken_rises c; instants = run_count score inputs before after answer c; is = refl })
      (run_below score inputs before after answer c at),
)

pub journal_exact : JournalExact
journal_exact = (exactly, runs_accepted)
