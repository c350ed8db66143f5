-- `wrong_length`: five tests, as they stand.
use mathlib.Core.Path.{refl}
use Rattle.instant_buffers.proofs.wrong_length.Statement.{statement}
use Rattle.instant_buffers.proofs.wrong_length.Tie as tie

returns : tie.Need-returns
returns c = refl

pub wrong_length_spec : {M : Type 1} → statement M
wrong_length_spec = tie.close (tie.spec returns)
