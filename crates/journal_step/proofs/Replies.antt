-- What the replies of a run and of a journal check have in common.
--     Proper           a reply that turns down the score by its verdict, or names a word or a number of instants up to n
--     Replies          so is the reply of an exit, of any type of exit
--     by_score, by_lengths, by_state     through these stages
--     by_form_lem      and through that of the form, where n is the whole words of the list or journal
use mathlib.Core.Path.{◌≡◌, refl, subst⁻¹}
use mathlib.Core.Bool.{Bool, cond}
use mathlib.Core.List.{List}
use Prim.Native.Nat.{ℕ, ◌/◌, ◌≤◌}
use native.Mathlib.Omega.{arith}
use lib.ListN.{length}
use Rattle.laws.proofs.Booleans.{either}
use Rattle.words.proofs.Words.{words_length}
use Rattle.std.proofs.Common.{Err}
use Rattle.check_verdicts.specs.declared.Fault.{Fault}
use Rattle.check_verdicts.specs.Verdicts.{by_verdict}
use Rattle.refusals.proofs.ByVerdict.{by_fault}
use Rattle.check_score.specs.Check.{verdict}
use Rattle.journal_form.specs.Form.{Form, Good, Bytes as NotWhole, Word as Wrong, form_of}
use Rattle.journal_words.proofs.Counts.{against_few}
use Rattle.journal_step.specs.Reply.{Reply}
use Rattle.refusals.specs.Refused.{Turned, Lengths, State, Next as Unlawful, Bytes, Word, Differs, Full, Last}
use Rattle.journal_step.specs.Reply.{Accepted}
use Rattle.journal_step.specs.ByForm.{by_form}

pub data Proper (score : List ℕ) (n : ℕ) : Reply → Type 0 where
  turned : (f : Fault) → verdict score ≡ Err f → Proper score n (Turned f)
  lengths : Proper score n Lengths
  no_state : Proper score n State
  unlawful : Proper score n Unlawful
  bytes : Proper score n Bytes
  word : (k : ℕ) → k ≤ n → Proper score n (Word k)
  differs : (k : ℕ) → k ≤ n → Proper score n (Differs k)
  full : (k : ℕ) → k ≤ n → Proper score n (Full k)
  last : (k : ℕ) → k ≤ n → Proper score n (Last k)
  accepted : (k : ℕ) → k ≤ n → Proper score n (Accepted k)

module _ {E : Type 0} (reply : E → Reply) (score : List ℕ) (n : ℕ) where
  pub record Replies (e : E) : Type 0 where
    pub proper : Proper score n (reply e)

  -- where an exit is by a reply
  module _ (down : Reply → E) (is : (r : Reply) → reply (down r) ≡ r) where
    replies : {r : Reply} → Proper score n r → Replies (down r)
    replies {r} p = record { proper = subst⁻¹ (Proper score n) (is r) p }

    pub by_score : {on : E} → Replies on → Replies (by_verdict (verdict score) (λ f. down (Turned f)) on)
    by_score h = by_fault Replies (verdict score) (λ f e. replies (turned f e)) (λ e. h)

    pub by_lengths : (fault : Bool) {on : E} → Replies on → Replies (cond fault (down Lengths) on)
    by_lengths fault h = either Replies fault (replies lengths) h

    pub by_state : (fault : Bool) {on : E} → Replies on → Replies (cond fault (down State) on)
    by_state fault h = either Replies fault (replies no_state) h

    pub by_form_lem : (journal : Bool) (tokens : ℕ) (bytes_of : List ℕ) → length bytes_of / 4 ≡ n → {on : E} → Replies on → Replies (by_form (form_of journal tokens bytes_of) down on)
    by_form_lem journal tokens bytes_of long {on} h = go (form_of journal tokens bytes_of) refl
      where
        go : (f : Form) → form_of journal tokens bytes_of ≡ f → Replies (by_form f down on)
        go Good e = h
        go NotWhole e = replies bytes
        go (Wrong k) e = replies (word k (omega (arith, against_few journal tokens bytes_of k e, words_length bytes_of)))
