-- The answers of score_journal_check.
--     one_exit         the contract settles the scratch and the number returned
--     fits             every reply of a check of a slice has room in an answer
--     called_fits      so has what a journal check call replies
--     read             a caller reads the reply's number and value
use mathlib.Core.Path.{sym, ap, subst⁻¹, ◌∙◌}
use mathlib.Core.List.{List}
use Prim.Native.Nat.{ℕ}
use Rattle.journal_step.specs.Reply.{Reply as Replied}
use Rattle.journal_check.specs.JournalCheckCall.{Exit, exit, JournalCheckCall}
use Rattle.journal_check.proofs.Replies.{check_proper}
use Rattle.score_answer.specs.Answer.{Fits, Reads}
use Rattle.score_answer.specs.Replies.{of_run_reply}
use Rattle.score_answer.proofs.Answer.{exact}
use Rattle.score.specs.ScoreJournalCheck.{ScoreJournalCheck, OneExit}
use Rattle.score.specs.Slice.{Slice}
use Rattle.score.proofs.ScoreRun.{proper_fits, words_few}

pub one_exit : OneExit
one_exit score journal before after₁ after₂ a b p q = (p.written ∙ sym q.written, p.answered ∙ sym q.answered)

pub fits : (score journal scratch : List ℕ) → Slice journal → Fits (of_run_reply (exit score journal scratch).reply)
fits score journal scratch s = proper_fits (words_few journal s) (check_proper score journal scratch)

-- of what a journal check call ensures
module _ {score journal before after : List ℕ} {r : Replied} (s : Slice journal) (called : JournalCheckCall score journal before after r) where
  pub called_fits : Fits (of_run_reply r)
  called_fits = subst⁻¹ (λ (x : Replied). Fits (of_run_reply x)) (ap (λ (e : Exit). e.reply) called.exits) (fits score journal before s)

pub read : (score journal before after : List ℕ) (a : ℕ) → ScoreJournalCheck score journal before after a → Reads a (of_run_reply (exit score journal before).reply)
read score journal before after a c = rw c.answered (exact (of_run_reply (exit score journal before).reply) (fits score journal before c.lent))
