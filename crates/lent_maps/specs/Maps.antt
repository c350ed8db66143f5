-- "Input, store and output maps: 32 bytes, token t being bit (t mod 8) of byte t div 8."
--     tokens_in      the tokens in a map, rising
--     map_of         the map of a set of tokens
use Rattle.std.specs.Prelude.{List, map, ℕ, ◌+◌, ◌*◌}
use Rattle.laws.specs.Sets.{below, keep, has}
use Rattle.words.specs.Map.{in_map}
use Rattle.bits.specs.Bits.{bits_value}
use Rattle.lent.specs.Lengths.{map_bytes}

unfoldable pub tokens_in : List ℕ → List ℕ
tokens_in m = keep (in_map m) (below 256)

unfoldable pub map_of : List ℕ → List ℕ
map_of tokens = map (λ k. bits_value (λ j. has (8 * k + j) tokens) 8) (below map_bytes)
