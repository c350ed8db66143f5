-- The replies of a journal check.
--     check_proper     they are proper, where n is the whole words of the journal
use mathlib.Core.Path.{refl}
use mathlib.Core.Bool.{true, not, ◌&&◌}
use mathlib.Core.List.{List, [], ◌∷◌}
use Prim.Native.Nat.{ℕ, suc, ◌+◌, ◌/◌, ◌≤◌}
use native.Mathlib.Omega.{arith}
use lib.Dec.{eqb}
use lib.ListN.{length}
use Rattle.laws.proofs.Booleans.{either}
use Rattle.tcc.specs.Instant.{after}
use Rattle.words.specs.Word.{words}
use Rattle.words.proofs.Words.{words_length}
use Rattle.format.specs.Decode.{sizes, decode}
use Rattle.lent.specs.States.{state_fault, as_bytes, start_bytes, next_bytes, at_last}
use Rattle.lent.specs.Lengths.{scratch_bytes}
use Rattle.journal_instants.specs.Instants.{instants_in, inputs_in}
use Rattle.journal_words.specs.History.{entry}
use Rattle.journal_words.proofs.Counts.{instants_few}
use Rattle.journal_step.specs.Reply.{Reply}
use Rattle.journal_step.specs.AnswerIn.{answer_in}
use Rattle.journal_step.proofs.Replies.{Proper, unlawful, differs, accepted, Replies, by_score, by_lengths, by_form_lem}
use Rattle.journal_check.specs.Check.{same, check_from}
use Rattle.journal_check.specs.JournalCheckCall.{Exit, left, exit}

check_few : (score state : List ℕ) (read : ℕ) (l : List (List ℕ)) (n : ℕ) → read + length l ≤ n → Proper score n (check_from score state read l)
unfolding check_from
check_few score state read [] n h = accepted read (omega arith)
check_few score state read (ws ∷ more) n h =
    let a = answer_in score state (inputs_in ws) in
    either (Proper score n) (state_fault (sizes score).agents (as_bytes (after a))) unlawful
    (either (Proper score n) (not (at_last state) && same ws (entry (decode score) (inputs_in ws) a)) (check_few score (next_bytes state a) (suc read) more n (omega arith)) (differs read (omega arith)))

pub check_proper : (score journal scratch : List ℕ) → Proper score (length journal / 4) (exit score journal scratch).reply
unfolding exit
check_proper score journal scratch = whole.proper
  where
    of : Exit → Reply
    of e = e.reply

    whole : Replies of score (length journal / 4) (exit score journal scratch)
    whole =
        by_score of score (length journal / 4) (left scratch) (λ r. refl)
        (by_lengths of score (length journal / 4) (left scratch) (λ r. refl) (not (eqb (length scratch) scratch_bytes))
        (by_form_lem of score (length journal / 4) (left scratch) (λ r. refl) true (sizes score).tokens journal refl
        (record { proper = check_few score (start_bytes (decode score)) 0 (instants_in (words journal)) (length journal / 4) (omega (arith, instants_few (words journal), words_length journal)) })))
