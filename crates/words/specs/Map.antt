-- "Input, store and output maps: 32 bytes, token t being bit (t mod 8) of byte t div 8."
--     in_map         whether token t is in a map
use Rattle.std.specs.Prelude.{Bool, List, ℕ, ◌/◌, ◌%◌, eqb, get_or}
use Rattle.words.specs.Word.{field}

unfoldable pub in_map : List ℕ → ℕ → Bool
in_map map t = eqb (field (get_or map (t / 8) 0) (t % 8) 1) 1
