-- Instants from the bytes of a state, held against those from the state itself.
--     Stands             bytes stand for a lawful state, copies aside
--     written_stands     so do the bytes written for one
--     instant_entry      an instant from such bytes has the words of the instant from the state
--     after_state        and leaves its agents
--     next_lawful        the state after it is lawful
--     instant_stands     the bytes after it stand for the state after it
--     instant_lawful     and have no fault
use mathlib.Core.Path.{◌≡◌, subst}
use mathlib.Core.Bool.{false}
use mathlib.Core.List.{List}
use Prim.Native.Nat.{ℕ, suc, ◌≤◌}
use native.Mathlib.Omega.{arith}
use lib.ListN.{length}
use Rattle.laws.proofs.Sets.{same_refl}
use Rattle.tcc.specs.Lawful.{Lawful}
use Rattle.tcc.specs.Instant.{State, running, aborted, answer, after}
use Rattle.tcc.proofs.SameAnswer.{SameAnswer}
use Rattle.format.specs.Decode.{sizes, decode}
use Rattle.format.proofs.Decode.{sizes_few}
use Rattle.lent.specs.States.{state_fault, state_of, as_bytes, instant_number, numbered, next_bytes, LawfulState, SameState}
use Rattle.lent.proofs.Round.{as_bytes_same, lawful_bytes}
use Rattle.lent.proofs.Numbered.{numbered_same, numbered_round}
use Rattle.lent.proofs.SameState.{answer_same, after_same}
use Rattle.instant_state.proofs.Inside.{answer_inside, after_lawful}
use Rattle.journal_words.specs.History.{entry, RisingBelow}
use Rattle.journal_words.proofs.Histories.{entry_same}
use Rattle.journal_step.specs.AnswerIn.{answer_in}

lawful_more : (n k : ℕ) (st : State) → n ≤ k → LawfulState n st → LawfulState k st
unfolding LawfulState
lawful_more n k (running l) h f = λ i m. omega (arith, f i m)
lawful_more n k aborted h f = tt

module _ (score : List ℕ) (law : Lawful (decode score)) (counted : length (decode score).agents ≡ (sizes score).agents) where
  pub record Stands (state : List ℕ) (st : State) : Type 0 where
    pub same : SameState (state_of state) st
    pub lawful : LawfulState (length (decode score).agents) st

  pub written_stands : (st : State) (n : ℕ) → LawfulState (length (decode score).agents) st → Stands (numbered st n) st
  written_stands st n h = record { same = numbered_round st n (lawful_more (length (decode score).agents) 1024 st law.agents_at_most h); lawful = h }

  module _ {state : List ℕ} {st : State} (stands : Stands state st) (inputs : List ℕ) where
    instant_same : SameAnswer (answer_in score state inputs) (answer (decode score) st inputs)
    unfolding answer_in
    instant_same = answer_same (decode score) (state_of state) st stands.same (same_refl inputs)

    pub instant_entry : entry (decode score) inputs (answer_in score state inputs) ≡ entry (decode score) inputs (answer (decode score) st inputs)
    instant_entry = entry_same (decode score) inputs instant_same

    pub after_state : SameState (after (answer_in score state inputs)) (after (answer (decode score) st inputs))
    after_state = after_same (answer_in score state inputs) (answer (decode score) st inputs) instant_same

    module _ (rising : RisingBelow (decode score).tokens inputs) where
      pub next_lawful : LawfulState (length (decode score).agents) (after (answer (decode score) st inputs))
      next_lawful = after_lawful (decode score) (answer (decode score) st inputs) (length (decode score).agents) (omega arith) (answer_inside (decode score) st inputs law stands.lawful rising.below)

      pub instant_stands : Stands (next_bytes state (answer_in score state inputs)) (after (answer (decode score) st inputs))
      instant_stands =
          let st' = after (answer (decode score) st inputs) in
          rw (numbered_same (after (answer_in score state inputs)) st' (suc (instant_number state)) after_state) (written_stands st' (suc (instant_number state)) next_lawful)

      pub instant_lawful : state_fault (sizes score).agents (as_bytes (after (answer_in score state inputs))) ≡ false
      instant_lawful =
          let st' = after (answer (decode score) st inputs) in
          rw (as_bytes_same (after (answer_in score state inputs)) st' after_state) (lawful_bytes (sizes score).agents (sizes_few score).1 st' (subst (λ n. LawfulState n st') counted next_lawful))
