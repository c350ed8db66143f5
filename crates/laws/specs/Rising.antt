-- Lists of numbers that rise strictly.
--     Rising        each entry is above the one before
use Rattle.std.specs.Prelude.{List, [], ◌∷◌, ℕ, ◌<◌}

pub data Rising : List ℕ → Type 0 where
  none : Rising []
  one : {k : ℕ} → Rising (k ∷ [])
  more : {k m : ℕ} {l : List ℕ} → k < m → Rising (m ∷ l) → Rising (k ∷ m ∷ l)
