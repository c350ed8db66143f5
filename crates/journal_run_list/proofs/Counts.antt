-- How many instants a run writes.
--     run_few          no more than its list has
use mathlib.Core.List.{List, [], ◌∷◌}
use Prim.Native.Nat.{ℕ, suc, ◌*◌, ◌-◌, ◌≤◌}
use native.Mathlib.Omega.{arith}
use lib.ListN.{length}
use Rattle.format.specs.Decode.{decode}
use Rattle.lent.specs.States.{next_bytes, at_last}
use Rattle.journal_words.specs.History.{entry}
use Rattle.journal_step.specs.AnswerIn.{answer_in}
use Rattle.journal_run_list.specs.Run.{MayStop, Not, Next, Last, Room, Ran, stop_at, unless_stopped, run_from}

pub run_few : (score state : List ℕ) (room : ℕ) (l : List (List ℕ)) → (run_from score state room l).instants ≤ length l
unfolding run_from
run_few score state room [] = omega arith
run_few score state room (inputs ∷ more) =
    let a = answer_in score state inputs in
    let e = entry (decode score) inputs a in
    go (stop_at score (at_last state) a (4 * length e) room) e (run_from score (next_bytes state a) (room - 4 * length e) more) (run_few score (next_bytes state a) (room - 4 * length e) more)
  where
    go : (why : MayStop) (e : List ℕ) (r : Ran) → r.instants ≤ length more → (unless_stopped why state e r).instants ≤ suc (length more)
    go Not e r h = omega arith
    go Next e r h = omega arith
    go Last e r h = omega arith
    go Room e r h = omega arith
