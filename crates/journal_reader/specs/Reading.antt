-- "A journal reader shows each instant's words as a part of the journal's own bytes, uncopied, and past the last instant an
-- empty part; a journal that meets 12 or 13 is turned down so, with an empty part." By which of the two, its form says: "list
-- or journal bytes not a multiple of 4", number 12; "list or journal word against its form, or token T or above", number 13
-- and the word.
--     form_number, word_of     the number by which a form is turned down, and the word; 0 where there is none
--     reader_at      a reader of a journal at a position, with the journal's form
--     made           the reader that is made of a journal
--     moved_by       the reader, moved on by so many instants: its form is kept
use Rattle.std.specs.Prelude.{true, List, ℕ}
use Rattle.std.specs.Borrow.{Bor}
use Rattle.journal_form.specs.Form.{Form, Good, Bytes, Word, form_of}
use Rattle.journal_positions.specs.Positions.{start_of, place_after}
use Rattle.journal_reader.specs.declared.Reader.{Reader}

abbrev pub form_number : Form → ℕ
form_number Good = 0
form_number Bytes = 12
form_number (Word k) = 13

abbrev pub word_of : Form → ℕ
word_of Good = 0
word_of Bytes = 0
word_of (Word k) = k

abbrev pub reader_at : Bor (List ℕ) → ℕ → Form → Reader
reader_at journal at form = record { journal = journal; at = at; form = form }

abbrev pub made : ℕ → Bor (List ℕ) → Reader
made tokens journal = reader_at journal (start_of tokens journal.now) (form_of true tokens journal.now)

abbrev pub moved_by : ℕ → Reader → Reader
moved_by n r = reader_at r.journal (place_after n r.journal.now r.at) r.form
