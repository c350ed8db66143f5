-- Runs from states that differ in their numbers alone, where the last number is not reached.
--     Alike          what they do: the same, but for the number in the state
--     run_aside      so they do
use mathlib.Core.Path.{◌≡◌, refl, sym, ap}
use mathlib.Core.Bool.{false}
use mathlib.Core.List.{List, [], ◌∷◌, ◌++◌}
use Prim.Native.Nat.{ℕ, suc, ◌+◌, ◌*◌, ◌-◌, ◌≤◌}
use borrow.Author.Tests.{ne_eqb}
use native.Mathlib.Omega.{arith}
use lib.ListN.{length}
use Rattle.tcc.specs.Instant.{Answer, after, answer}
use Rattle.format.specs.Decode.{decode}
use Rattle.lent.specs.States.{instant_number, next_bytes, last_number, SameButNumber}
use Rattle.lent.proofs.Numbered.{state_aside, numbered_alike, next_number}
use Rattle.journal_words.specs.History.{entry}
use Rattle.journal_step.specs.AnswerIn.{answer_in}
use Rattle.journal_run_list.specs.Run.{MayStop, Not, Next, Last, Room, stop_at, Ran, stopped, unless_stopped, run_from}

pub record Alike (r t : Ran) : Type 0 where
  pub words : r.words ≡ t.words
  pub state : SameButNumber r.state t.state
  pub instants : r.instants ≡ t.instants
  pub stop : r.stop ≡ t.stop

module _ (score : List ℕ) where
  pub answer_aside : (s t inputs : List ℕ) → SameButNumber s t → answer_in score t inputs ≡ answer_in score s inputs
  unfolding answer_in
  answer_aside s t inputs same = ap (λ st. answer (decode score) st inputs) (sym (state_aside s t same.words))

  pub run_aside : (lists : List (List ℕ)) (s t : List ℕ) → SameButNumber s t → (room : ℕ) → instant_number s + length lists ≤ last_number → instant_number t + length lists ≤ last_number →
      Alike (run_from score s room lists) (run_from score t room lists)
  unfolding run_from
  run_aside [] s t same room few few' = record { words = refl; state = same; instants = refl; stop = refl }
  run_aside (inputs ∷ more) s t same room few few' =
      rw (answer_aside s t inputs same, ne_eqb (instant_number s) last_number (λ e. omega arith), ne_eqb (instant_number t) last_number (λ e. omega arith))
      (go (stop_at score false a (4 * length words) room) (run_from score (next_bytes s a) (room - 4 * length words) more) (run_from score (next_bytes t a) (room - 4 * length words) more)
      (run_aside more (next_bytes s a) (next_bytes t a) (numbered_alike (after a) (suc (instant_number s)) (suc (instant_number t))) (room - 4 * length words)
      (omega (arith, next_number s a (omega arith))) (omega (arith, next_number t a (omega arith)))))
    where
      a : Answer
      a = answer_in score s inputs

      words : List ℕ
      words = entry (decode score) inputs a

      stops : (why : MayStop) → Alike (stopped s why) (stopped t why)
      stops why = record { words = refl; state = same; instants = refl; stop = refl }

      go : (why : MayStop) (r r' : Ran) → Alike r r' → Alike (unless_stopped why s words r) (unless_stopped why t words r')
      go Not r r' rest = record { words = ap (λ l. words ++ l) rest.words; state = rest.state; instants = ap suc rest.instants; stop = rest.stop }
      go Next r r' rest = stops Next
      go Last r r' rest = stops Last
      go Room r r' rest = stops Room
