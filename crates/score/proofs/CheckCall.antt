-- The answers of score_check.
--     one_exit         the contract settles the number returned
--     one_answer       two calls that return the same number found the same
--     read             a caller reads the verdict's number and value
--     turned_fits      a fault that turns down a score has room in an answer
use mathlib.Core.Path.{◌≡◌, sym, ap, subst, ◌∙◌}
use mathlib.Core.List.{List}
use Prim.Native.Nat.{ℕ}
use Rattle.std.proofs.Common.{Err}
use Rattle.check_verdicts.specs.declared.Fault.{Fault}
use Rattle.check_verdicts.specs.Verdict.{Verdict}
use Rattle.check_verdicts.specs.Verdicts.{verdict_number, verdict_value}
use Rattle.check_verdicts.proofs.Verdicts.{number_few, verdict_settled}
use Rattle.check_score.specs.Check.{verdict}
use Rattle.check_score.proofs.Values.{verdict_small}
use Rattle.score_answer.specs.Answer.{reply, Fits, number_in, value_in}
use Rattle.score_answer.specs.Replies.{of_verdict}
use Rattle.score_answer.proofs.Answer.{exact}
use Rattle.score_answer.proofs.Replies.{reply_number, reply_value, reply_fits}
use Rattle.score.specs.CheckCall.{CheckCall, OneExit, OneAnswer}

pub one_exit : OneExit
one_exit s a b p q = p.answered ∙ sym q.answered

pub read : (s : List ℕ) (a : ℕ) → CheckCall s a → (number_in a ≡ verdict_number (verdict s)) × (value_in a ≡ verdict_value (verdict s))
read s a c =
    let n = verdict_number (verdict s) in
    let v = verdict_value (verdict s) in
    let e = exact (reply n v) (reply_fits n v (number_few (verdict s)) (verdict_small s)) in
    (ap number_in c.answered ∙ e.number ∙ reply_number n v, ap value_in c.answered ∙ e.value ∙ reply_value n v)

pub one_answer : OneAnswer
one_answer s t a p q =
    verdict_settled (verdict s) (verdict t) (sym (read s a p).0 ∙ (read t a q).0) (sym (read s a p).1 ∙ (read t a q).1)

pub turned_fits : (s : List ℕ) (f : Fault) → verdict s ≡ Err f → Fits (of_verdict (Err f))
turned_fits s f e =
    let v = verdict s in
    subst (λ (w : Verdict). Fits (of_verdict w)) e (reply_fits (verdict_number v) (verdict_value v) (number_few v) (verdict_small s))
