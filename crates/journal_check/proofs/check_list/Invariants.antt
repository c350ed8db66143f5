-- The journal check half way.
use Rattle.std.proofs.Common.{◌≡◌, ◌-◌, length}
use Rattle.lent.specs.Lengths.{no_scratch}
use Rattle.journal_check.proofs.Checks.{Checking}
use Rattle.journal_check.proofs.check_list.Given as goal

abbrev pub invariant-loop-at : goal.invariant-loop-at
invariant-loop-at l = record {
  checking : Checking l.prepared.bytes.now l.journal l.stands l.instants l.at;
  scratch_is : l.scratch ≡ no_scratch;
}

abbrev pub decreases-loop-at : goal.decreases-loop-at
decreases-loop-at l = length l.journal - l.at
