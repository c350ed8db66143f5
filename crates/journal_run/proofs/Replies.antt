-- The replies of a run.
--     run_proper       a run's replies are proper, where n is the whole words of the list
use mathlib.Core.Path.{refl}
use mathlib.Core.Bool.{false}
use mathlib.Core.List.{List}
use Prim.Native.Nat.{ℕ, ◌/◌, ◌≤◌}
use native.Mathlib.Omega.{arith}
use lib.ListN.{length, length-map}
use Rattle.words.specs.Word.{words}
use Rattle.words.proofs.Words.{words_length}
use Rattle.format.specs.Decode.{sizes}
use Rattle.lent.specs.States.{state_fault}
use Rattle.journal_instants.specs.Instants.{instants_in, inputs_in, input_lists}
use Rattle.journal_words.proofs.Counts.{instants_few}
use Rattle.journal_step.specs.Reply.{Reply}
use Rattle.journal_step.proofs.Replies.{Proper, unlawful, full, last, accepted, Replies, by_score, by_lengths, by_state, by_form_lem}
use Rattle.journal_run_list.specs.Run.{MayStop, Not, Next, Last, Room, Ran, run_from}
use Rattle.journal_run_list.proofs.Counts.{run_few}
use Rattle.journal_run.specs.RunCall.{Lent, Exit, length_fault, kept, ending, exit}

ending_proper : (score : List ℕ) (n : ℕ) (why : MayStop) (k : ℕ) → k ≤ n → Proper score n (ending why k)
ending_proper score n Not k h = accepted k h
ending_proper score n Next k h = unlawful
ending_proper score n Last k h = last k h
ending_proper score n Room k h = full k h

pub run_proper : (score inputs : List ℕ) (l : Lent) → Proper score (length inputs / 4) (exit score inputs l).reply
unfolding exit input_lists
run_proper score inputs l = whole.proper
  where
    of : Exit → Reply
    of e = e.reply

    ran : Ran
    ran = run_from score l.state (length l.journal) (input_lists inputs)

    few : ran.instants ≤ length inputs / 4
    few = omega (arith, run_few score l.state (length l.journal) (input_lists inputs), length-map (instants_in (words inputs)) inputs_in, instants_few (words inputs), words_length inputs)

    whole : Replies of score (length inputs / 4) (exit score inputs l)
    whole =
        by_score of score (length inputs / 4) (kept l) (λ r. refl)
        (by_lengths of score (length inputs / 4) (kept l) (λ r. refl) (length_fault l)
        (by_state of score (length inputs / 4) (kept l) (λ r. refl) (state_fault (sizes score).agents l.state)
        (by_form_lem of score (length inputs / 4) (kept l) (λ r. refl) false (sizes score).tokens inputs refl
        (record { proper = ending_proper score (length inputs / 4) ran.stop ran.instants few }))))
