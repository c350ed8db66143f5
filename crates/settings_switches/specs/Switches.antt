-- "at most 16 distinct switch tokens"; number 17: "more than 16 switches, a switch repeated or not in the score" (W6).
--     most_switches
--     repeated         whether a switch is listed twice
--     switch_fault     whether a list of switches meets number 17, at a score with so many tokens
use Rattle.std.specs.Prelude.{Bool, false, ◌||◌, List, [], ◌∷◌, ℕ, suc, leb, length}
use Rattle.laws.specs.Sets.{any, has}

abbrev pub most_switches : ℕ
most_switches = 16

abbrev pub repeated : List ℕ → Bool
repeated [] = false
repeated (t ∷ l) = has t l || repeated l

unfoldable pub switch_fault : ℕ → List ℕ → Bool
switch_fault tokens switches = leb (suc most_switches) (length switches) || repeated switches || any (λ t. leb tokens t) switches
