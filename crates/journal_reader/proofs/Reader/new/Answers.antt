-- `new`: where the reader starts is the journal's own start, since the form is the journal's.
use Rattle.std.proofs.Common.{rules}
use Rattle.journal_positions.specs.Positions.{start_of}
use Rattle.journal_reader.proofs.Reader.new.Goals as goal

-- src/lib.rt:20:1
pub returns : goal.returns
unfolding start_of
returns c = search rules
