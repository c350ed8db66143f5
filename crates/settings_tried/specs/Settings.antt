-- "count how many of the settings with exactly k switches pressed end with status 0, with 1 and with 2, each setting tried
-- from that same state. The three numbers come from the definition of an instant" (W6).
--     settings      the settings with exactly k of the switches pressed: those with the first one, then those without
--     ending        how many of some settings end with a status, each tried with exactly its tokens as input
--     counts        how many end with status 0, with 1 and with 2
use Rattle.std.specs.Prelude.{List, [], ◌∷◌, ◌++◌, map, ℕ, zero, suc, eqb, length}
use Rattle.laws.specs.Sets.{keep}
use Rattle.tcc.specs.Score.{Score}
use Rattle.tcc.specs.Instant.{State, answer}
use Rattle.settings_tried.specs.declared.Counts.{Counts}

abbrev pub settings : ℕ → List ℕ → List (List ℕ)
settings zero l = [] ∷ []
settings (suc k) [] = []
settings (suc k) (t ∷ l) = map (λ s. t ∷ s) (settings k l) ++ settings (suc k) l

abbrev pub ending : Score → State → ℕ → List (List ℕ) → ℕ
ending sc st status l = length (keep (λ s. eqb (answer sc st s).status status) l)

unfoldable pub counts : Score → State → List (List ℕ) → Counts
counts sc st l = record { quiet = ending sc st 0 l; clashed = ending sc st 1 l; aborted = ending sc st 2 l }
