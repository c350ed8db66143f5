-- "They hold one bit for each agent reduced in the instant" (W4): agent i is bit (i mod 8) of byte i div 8.
--     reduced_in     the agents whose bits are set in a scratch, rising
use Rattle.std.specs.Prelude.{List, ℕ, ◌*◌, ◌/◌, ◌%◌, get_or}
use Rattle.laws.specs.Sets.{below, keep}
use Rattle.bits.specs.Bits.{bit_at}
use Rattle.lent.specs.Lengths.{scratch_bytes}

unfoldable pub reduced_in : List ℕ → List ℕ
reduced_in scratch = keep (λ i. bit_at (get_or scratch (i / 8) 0) (i % 8)) (below (8 * scratch_bytes))
