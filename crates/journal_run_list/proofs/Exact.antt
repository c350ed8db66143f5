-- Runs from a state, held against the history that the definition gives.
--     run_history        a run writes the history of the instants that it writes
use mathlib.Core.Path.{◌≡◌, refl, ap₂}
use mathlib.Core.List.Memᴰ
use mathlib.Core.List.{List, [], ◌∷◌, ◌++◌}
use Prim.Native.Nat.{ℕ, ◌*◌, ◌-◌}
use lib.ListN.{length, take}
use Rattle.laws.proofs.Sets.{Within}
use Rattle.tcc.specs.Lawful.{Lawful}
use Rattle.tcc.specs.Instant.{Answer, State, answer, after}
use Rattle.format.specs.Decode.{sizes, decode}
use Rattle.lent.specs.States.{next_bytes, at_last}
use Rattle.journal_words.specs.History.{entry, history, RisingBelow}
use Rattle.journal_step.specs.AnswerIn.{answer_in}
use Rattle.journal_step.proofs.Stands.{Stands, instant_entry, instant_stands}
use Rattle.journal_run_list.specs.Run.{MayStop, Not, Next, Last, Room, stop_at, Ran, unless_stopped, run_from}

module _ (score : List ℕ) (law : Lawful (decode score)) (counted : length (decode score).agents ≡ (sizes score).agents) where
  pub run_history : (lists : List (List ℕ)) → Within (RisingBelow (decode score).tokens) lists → (state : List ℕ) (st : State) → Stands score law counted state st → (room : ℕ) →
      (run_from score state room lists).words ≡ history (decode score) st (take (run_from score state room lists).instants lists)
  unfolding run_from history
  run_history [] rising state st stands _ = refl
  run_history (inputs ∷ more) rising state st stands room =
      go (stop_at score (at_last state) a (4 * length words) room) (run_from score (next_bytes state a) (room - 4 * length words) more)
      (run_history more (λ l m. rising l (Memᴰ.tail m)) (next_bytes state a) (after b) (instant_stands score law counted stands inputs (rising inputs (Memᴰ.head refl))) (room - 4 * length words))
    where
      a : Answer
      a = answer_in score state inputs

      b : Answer
      b = answer (decode score) st inputs

      words : List ℕ
      words = entry (decode score) inputs a

      go : (stop : MayStop) (r : Ran) → r.words ≡ history (decode score) (after b) (take r.instants more) →
          (unless_stopped stop state words r).words ≡ history (decode score) st (take (unless_stopped stop state words r).instants (inputs ∷ more))
      go Not r rest = ap₂ ◌++◌ (instant_entry score law counted stands inputs) rest
      go Next r rest = refl
      go Last r rest = refl
      go Room r rest = refl
