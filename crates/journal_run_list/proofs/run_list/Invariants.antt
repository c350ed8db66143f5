-- The run half way.
use Rattle.std.proofs.Common.{◌≡◌, ℕ, ◌-◌, ◌≤◌, List, length}
use Rattle.format.specs.Decode.{sizes}
use Rattle.lent.specs.Lengths.{no_scratch}
use Rattle.lent.specs.States.{state_of, instant_number, last_number, LawfulState}
use Rattle.instant_state.specs.Standing.{state_in}
use Rattle.journal_step.proofs.Reading.{Reading}
use Rattle.journal_run_list.proofs.Runs.{Half}
use Rattle.journal_run_list.proofs.run_list.Given as goal

abbrev pub invariant-loop-at : goal.invariant-loop-at
invariant-loop-at l = record {
  reading : Reading (sizes l.prepared.bytes.now).tokens l.inputs l.at;
  lawful : LawfulState (sizes l.prepared.bytes.now).agents (state_in l.stands);
  room : l.filled ≤ length l.journal;
  counted : l.instants ≤ l.at;
  few : l.reached ≤ last_number;
  half : (s : List ℕ) → state_of s ≡ state_in l.initial.stands → instant_number s ≡ l.initial.reached → Half l.prepared.bytes.now l.inputs s l.initial.journal l.journal l.stands l.reached l.instants l.at l.filled;
  scratch_is : l.scratch ≡ no_scratch;
}

abbrev pub decreases-loop-at : goal.decreases-loop-at
decreases-loop-at l = length l.inputs - l.at
