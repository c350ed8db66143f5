-- Going through a journal with a reader.
--     showing        what a reader shows, as the contract of `shown` says; of `moved_by k (made tokens journal)` it is what `instant` gives
--     through        what it shows as it is moved on from instant to instant
--     Along          a reader goes along bytes
--     GoesThrough    a journal of good form: its instants, exactly and in order; their parts put together are the journal;
--                    past the last an empty part
--     Against        word k is the lowest word against its form; a given word stands before the first
--     Meets          bytes meet the number 12, or 13 with a word: the table's rows
--     Turned         a reader turns its journal down: with an empty part, and by the number and the word that the journal meets
--     TurnedDown     a reader's form is its journal's, however far it is moved on, so that it is good of a journal of good form
--                    alone, which `GoesThrough` speaks of; and any other journal is turned down
use Rattle.std.specs.Prelude.{◌≡◌, true, false, ℕ, zero, suc, ◌%◌, ◌<◌, ◌≤◌, length, get_or}
use mathlib.Core.List.{List, [], ◌∷◌, map, flatten}
use Rattle.std.specs.Borrow.{Bor}
use Rattle.words.specs.Word.{words}
use Rattle.journal_form.specs.Form.{Good, may_follow, form_of}
use Rattle.journal_instants.specs.Instants.{instants_in}
use Rattle.journal_positions.specs.Positions.{shown_at}
use Rattle.journal_reader.specs.Reading.{form_number, word_of, made, moved_by}
use Rattle.journal_reader.specs.declared.Reader.{Reader}

abbrev pub showing : Reader → List ℕ
showing r = shown_at r.journal.now r.at

unfoldable pub through : ℕ → Reader → List (List ℕ)
through zero r = []
through (suc n) r = showing r ∷ through n (moved_by 1 r)

-- n instants from a reader on are those of the bytes: each has a word, and past them nothing is shown
pub record Along (n : ℕ) (r : Reader) (bytes : List ℕ) : Type 0 where
  pub instants : map words (through n r) ≡ instants_in (words bytes)
  pub together : flatten (through n r) ≡ bytes
  pub each : (k : ℕ) → k < n → showing (moved_by k r) ≡ get_or (through n r) k []
  pub some : (k : ℕ) → k < n → 4 ≤ length (showing (moved_by k r))
  pub past : (k : ℕ) → n ≤ k → showing (moved_by k r) ≡ []

abbrev pub GoesThrough : Type 0
GoesThrough = (tokens : ℕ) (journal : Bor (List ℕ)) → form_of true tokens journal.now ≡ Good → Along (length (instants_in (words journal.now))) (made tokens journal) journal.now

pub record Against (tokens last : ℕ) (ws : List ℕ) (k : ℕ) : Type 0 where
  pub within : k < length ws
  pub against : may_follow true tokens (get_or (last ∷ ws) k 0) (get_or ws k 0) ≡ false
  pub lowest : (i : ℕ) → i < k → may_follow true tokens (get_or (last ∷ ws) i 0) (get_or ws i 0) ≡ true

-- before the first word stands 0, which is of no kind
pub data Meets (tokens : ℕ) (bytes : List ℕ) : ℕ → ℕ → Type 0 where
  twelve : (length bytes % 4 ≡ 0 → ⊥) → Meets tokens bytes 12 0
  thirteen : {k : ℕ} → length bytes % 4 ≡ 0 → Against tokens 0 (words bytes) k → Meets tokens bytes 13 k

pub record Turned (tokens : ℕ) (bytes : List ℕ) (r : Reader) : Type 0 where
  pub empty : showing r ≡ []
  pub meets : Meets tokens bytes (form_number r.form) (word_of r.form)

abbrev pub TurnedDown : Type 0
TurnedDown =
    (tokens : ℕ) (journal : Bor (List ℕ)) (k : ℕ) →
    ((moved_by k (made tokens journal)).form ≡ form_of true tokens journal.now)
    × ((form_of true tokens journal.now ≡ Good → ⊥) → Turned tokens journal.now (moved_by k (made tokens journal)))
