-- The answers of score_run.
--     one_exit         the contract settles the buffers and the number returned
--     proper_fits      a reply of a run or a journal check has room in an answer, where the list or journal is a slice
--     words_few        a slice has fewer than 2^61 whole words
--     fits             every reply of a run over a slice has room in an answer
--     called_fits      so has what a run call replies
--     read             a caller reads the reply's number and value
use mathlib.Core.Path.{sym, ap, subst⁻¹, ◌∙◌}
use mathlib.Core.List.{List}
use Prim.Native.Nat.{ℕ, ◌/◌, ◌^◌, ◌<◌}
use native.Mathlib.Omega.{arith}
use lib.ListN.{length}
use Rattle.journal_step.specs.Reply.{Reply as Replied}
use Rattle.journal_step.proofs.Replies.{Proper, turned, lengths, no_state, unlawful, bytes, word, differs, full, last, accepted}
use Rattle.journal_run.specs.RunCall.{Lent, Exit, exit, RunCall}
use Rattle.journal_run.proofs.Replies.{run_proper}
use Rattle.score_answer.specs.Answer.{Fits, Reads}
use Rattle.score_answer.specs.Replies.{of_run_reply}
use Rattle.score_answer.proofs.Answer.{exact}
use Rattle.score.specs.ScoreRun.{ScoreRun, OneExit}
use Rattle.score.specs.Slice.{Slice}
use Rattle.score.proofs.CheckCall.{turned_fits}

pub one_exit : OneExit
one_exit score inputs before after₁ after₂ a b p q = (p.written ∙ sym q.written, p.answered ∙ sym q.answered)

pub proper_fits : {score : List ℕ} {n : ℕ} {r : Replied} → n < 2 ^ 61 → Proper score n r → Fits (of_run_reply r)
proper_fits {score = score} few (turned f e) = turned_fits score f e
proper_fits few lengths = omega arith
proper_fits few no_state = omega arith
proper_fits few unlawful = omega arith
proper_fits few bytes = omega arith
proper_fits few (word k h) = omega arith
proper_fits few (differs k h) = omega arith
proper_fits few (full k h) = omega arith
proper_fits few (last k h) = omega arith
proper_fits few (accepted k h) = omega arith

pub words_few : (s : List ℕ) → Slice s → length s / 4 < 2 ^ 61
words_few s lent = omega (arith, lent.few)

pub fits : (score inputs : List ℕ) (l : Lent) → Slice inputs → Fits (of_run_reply (exit score inputs l).reply)
fits score inputs l s = proper_fits (words_few inputs s) (run_proper score inputs l)

-- of what a run call ensures
module _ {score inputs : List ℕ} {l m : Lent} {r : Replied} (s : Slice inputs) (called : RunCall score inputs l m r) where
  pub called_fits : Fits (of_run_reply r)
  called_fits = subst⁻¹ (λ (x : Replied). Fits (of_run_reply x)) (ap (λ (e : Exit). e.reply) called.exits) (fits score inputs l s)

pub read : (score inputs : List ℕ) (l m : Lent) (a : ℕ) → ScoreRun score inputs l m a → Reads a (of_run_reply (exit score inputs l).reply)
read score inputs l m a c = rw c.answered (exact (of_run_reply (exit score inputs l).reply) (fits score inputs l c.lent))
