-- The instants of a journal, one after the other, each held against what the run writes from the state that the one before
-- left.
--     same           words are the same
--     check_from     a journal check, from a state, where so many instants have been read: 11, 14 at the first instant
--                    that is not what the run writes, or accepted with the instants read. A run writes no instant at the
--                    last number: "a journal check answers 14 there" (W7)
use Rattle.std.specs.Prelude.{Bool, true, false, cond, not, ◌&&◌, List, [], ◌∷◌, ℕ, suc, eqb}
use Rattle.tcc.specs.Instant.{after}
use Rattle.format.specs.Decode.{sizes, decode}
use Rattle.lent.specs.States.{state_fault, as_bytes, next_bytes, at_last}
use Rattle.journal_instants.specs.Instants.{inputs_in}
use Rattle.journal_words.specs.History.{entry}
use Rattle.journal_step.specs.Reply.{Reply}
use Rattle.refusals.specs.Refused.{Next as Unlawful, Differs}
use Rattle.journal_step.specs.Reply.{Accepted}
use Rattle.journal_step.specs.AnswerIn.{answer_in}

abbrev pub same : List ℕ → List ℕ → Bool
same [] [] = true
same [] (w ∷ ws) = false
same (v ∷ vs) [] = false
same (v ∷ vs) (w ∷ ws) = eqb v w && same vs ws

unfoldable pub check_from : List ℕ → List ℕ → ℕ → List (List ℕ) → Reply
check_from score state read [] = Accepted read
check_from score state read (ws ∷ more) =
    cond (state_fault (sizes score).agents (as_bytes (after (answer_in score state (inputs_in ws))))) Unlawful
    (cond (not (at_last state) && same ws (entry (decode score) (inputs_in ws) (answer_in score state (inputs_in ws))))
    (check_from score (next_bytes state (answer_in score state (inputs_in ws))) (suc read) more)
    (Differs read))
