-- Contracts of inner functions: the bytes of one instant.
--     span, part_from    how many words the first part of words has, and the bytes of the first part
--     part_at             the part of a journal's bytes from a position to the next instant word or the end; none where the
--                        form is against it, or where the position is no word's
use Rattle.std.specs.Prelude.{cond, List, [], ◌∷◌, ℕ, suc, ◌*◌, ◌%◌, eqb, length, take, drop}
use Rattle.words.specs.Word.{words}
use Rattle.journal_form.specs.Form.{Form, Good, Bytes, Word}
use Rattle.journal_instants.specs.Instants.{up_to}

-- how many words from the first on, up to the next instant word
abbrev pub span : List ℕ → ℕ
span [] = 0
span (w ∷ ws) = suc (length (up_to ws))

abbrev pub part_from : List ℕ → List ℕ
part_from bytes = take (4 * span (words bytes)) bytes

unfoldable pub part_at : Form → List ℕ → ℕ → List ℕ
part_at Good bytes at = cond (eqb (at % 4) 0) (part_from (drop at bytes)) []
part_at Bytes _ _ = []
part_at (Word _) _ _ = []
