-- The answers of score_translate.
--     one_exit         the contract settles the buffer and the number returned
--     bytes_below      the bytes of a slice are bytes
--     outcome_fits, fits
--                      every reply of a translation of a slice has room in an answer
--     called_fits      so has what a translation replies
--     read             a caller reads the reply's number and value
use mathlib.Core.Path.{sym, ap, subst⁻¹, ◌∙◌}
use mathlib.Core.List.{List}
use Prim.Native.Nat.{ℕ, ◌<◌}
use native.Mathlib.Omega.{arith}
use Rattle.laws.proofs.Lists.{on_entries}
use Rattle.laws.proofs.Sets.{Within}
use Rattle.draft_plain.specs.Reply.{Reply as Replied}
use Rattle.draft_format.specs.DraftFile.{as_whens}
use Rattle.draft_call.specs.TranslateCall.{Exit, exit, TranslateCall}
use Rattle.draft_call.proofs.Plain.{plain_short, Outcome, turned, lengths, large, writes, outcome}
use Rattle.score_answer.specs.Answer.{Fits, Reads}
use Rattle.score_answer.specs.Replies.{of_translation}
use Rattle.score_answer.proofs.Answer.{exact}
use Rattle.score.specs.ScoreTranslate.{ScoreTranslate, OneExit}
use Rattle.score.specs.Slice.{Slice}
use Rattle.score.proofs.CheckCall.{turned_fits}

pub one_exit : OneExit
one_exit draft before after₁ after₂ a b p q = (p.written ∙ sym q.written, p.answered ∙ sym q.answered)

pub bytes_below : (s : List ℕ) → Slice s → Within (λ b. b < 256) s
bytes_below s lent = on_entries (λ b. b < 256) s (λ i h. lent.small i)

outcome_fits : {draft before : List ℕ} {e : Exit} → Slice draft → Outcome draft before e → Fits (of_translation e.reply)
outcome_fits {draft = draft} lent (turned f e) = turned_fits (as_whens draft) f e
outcome_fits lent (lengths a n) = omega arith
outcome_fits lent (large a l f) = omega arith
outcome_fits {draft = draft} lent (writes a l f) = omega (arith, plain_short draft (bytes_below draft lent) a f)

pub fits : (draft before : List ℕ) → Slice draft → Fits (of_translation (exit draft before).reply)
fits draft before lent = outcome_fits lent (outcome draft before)

-- of what a translation ensures
module _ {draft before after : List ℕ} {r : Replied} (s : Slice draft) (called : TranslateCall draft before after r) where
  pub called_fits : Fits (of_translation r)
  called_fits = subst⁻¹ (λ (x : Replied). Fits (of_translation x)) (ap (λ (e : Exit). e.reply) called.exits) (fits draft before s)

pub read : (draft before after : List ℕ) (a : ℕ) → ScoreTranslate draft before after a → Reads a (of_translation (exit draft before).reply)
read draft before after a c = rw c.answered (exact (of_translation (exit draft before).reply) (fits draft before c.lent))
