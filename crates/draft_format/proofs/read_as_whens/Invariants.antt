-- `read_as_whens`: the bytes below n are read.
use Rattle.std.proofs.Common.{◌≡◌, ℕ, ◌<◌, length, get_or}
use Rattle.draft_format.specs.DraftFile.{when_byte}
use Rattle.draft_format.proofs.read_as_whens.Given as goal

abbrev pub invariant-loop-n : goal.invariant-loop-n
invariant-loop-n l = (length l.whens ≡ length l.initial.whens) × ((j : ℕ) → j < l.n → get_or l.whens j 0 ≡ when_byte l.agents j (get_or l.draft j 0))
