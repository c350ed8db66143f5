-- Where the instants of a journal stand in its bytes: a reader of it "shows each instant's words as a part of the journal's own
-- bytes, uncopied, and past the last instant an empty part; a journal that meets 12 or 13 is turned down so, with an empty part."
--     start_by, start_of     where a reader starts: at the first instant, or past the last where the journal is against its form
--     size_at         how many bytes it shows at a position: up to the next instant word or the end
--     shown_at       what it shows there
--     place_after    the position so many instants further on
--     place_of        the position of instant k
use Rattle.std.specs.Prelude.{true, cond, List, ℕ, zero, suc, ◌+◌, ◌*◌, ◌%◌, eqb, length, take, drop}
use Rattle.words.specs.Word.{words}
use Rattle.journal_form.specs.Form.{Form, Good, Bytes, Word, form_of}
use Rattle.journal_instants.specs.Parts.{span}

abbrev pub start_by : Form → List ℕ → ℕ
start_by Good _ = 0
start_by Bytes bytes = length bytes
start_by (Word k) bytes = length bytes

unfoldable pub start_of : ℕ → List ℕ → ℕ
start_of tokens bytes = start_by (form_of true tokens bytes) bytes

unfoldable pub size_at : List ℕ → ℕ → ℕ
size_at bytes at = cond (eqb (at % 4) 0) (4 * span (words (drop at bytes))) 0

abbrev pub shown_at : List ℕ → ℕ → List ℕ
shown_at bytes at = take (size_at bytes at) (drop at bytes)

unfoldable pub place_after : ℕ → List ℕ → ℕ → ℕ
place_after zero _ at = at
place_after (suc n) bytes at = place_after n bytes (at + size_at bytes at)

abbrev pub place_of : ℕ → ℕ → List ℕ → ℕ
place_of tokens k bytes = place_after k bytes (start_of tokens bytes)
