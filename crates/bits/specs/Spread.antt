-- Contracts of inner functions: bits spread over flags.
--     Spread         flags from a base on are the lowest bits of a word, and the others are as they were
use Rattle.std.specs.Prelude.{◌≡◌, Bool, false, List, ℕ, ◌+◌, ◌<◌, ◌≤◌, length, get_or}
use Rattle.bits.specs.Bits.{bit_at}

pub record Spread (base count w : ℕ) (before after : List Bool) : Type 0 where
  pub long : length after ≡ length before
  pub here : (j : ℕ) → j < count → get_or after (base + j) false ≡ bit_at w j
  pub lower : (i : ℕ) → i < base → get_or after i false ≡ get_or before i false
  pub upper : (i : ℕ) → base + count ≤ i → get_or after i false ≡ get_or before i false
