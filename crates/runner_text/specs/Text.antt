-- "One word a line, eight capital hex digits."
--     digit          the ASCII code of a digit below 16
--     line           the line of a word
use Rattle.std.specs.Prelude.{cond, List, [], ◌∷◌, ℕ, ◌+◌, ltb}
use Rattle.words.specs.Word.{field}

abbrev pub digit : ℕ → ℕ
digit d = cond (ltb d 10) (48 + d) (55 + d)

abbrev pub digit_at : ℕ → ℕ → ℕ
digit_at w lowest = digit (field w lowest 4)

abbrev pub line : ℕ → List ℕ
line w =
    digit_at w 28 ∷ digit_at w 24 ∷ digit_at w 20 ∷ digit_at w 16 ∷ digit_at w 12 ∷ digit_at w 8 ∷ digit_at w 4 ∷ digit_at w 0 ∷ 10 ∷ []
