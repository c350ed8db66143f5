-- The words of a journal buffer that are printed.
--     shown          those before the first zero
use Rattle.std.specs.Prelude.{cond, List, [], ◌∷◌, ℕ, eqb}

abbrev pub shown : List ℕ → List ℕ
shown [] = []
shown (w ∷ ws) = cond (eqb w 0) [] (w ∷ shown ws)
