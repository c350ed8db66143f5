-- `member_count`: the rules of the sets so far are counted.
use Rattle.std.proofs.Common.{◌≡◌, ◌*◌, ◌≤◌, length, take}
use Rattle.draft_table.specs.Tables.{keys}
use Rattle.draft_plain.specs.Plain.{member_rules}
use Rattle.draft_gathering.proofs.asked.member_count.Given as goal

abbrev pub invariant-loop-set : goal.invariant-loop-set
invariant-loop-set l = record { few : l.n ≤ 256 * l.set-index; rules : l.n ≡ length (member_rules l.tokens (keys l.set-index (take l.count l.sets))) }
