-- What the language says of any slice of bytes that is lent.
--     Slice          fewer than 2^63 bytes, each below 256
use Rattle.std.specs.Prelude.{List, ℕ, ◌^◌, ◌<◌, length, get_or}

pub record Slice (bytes : List ℕ) : Type 0 where
  pub few : length bytes < 2 ^ 63
  pub small : (i : ℕ) → get_or bytes i 0 < 2 ^ 8
