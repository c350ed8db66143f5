-- "Input list: for each instant the word 0xC0000000, then a kind 13 word for each input token (7..0), rising strictly.
-- Journal: the instant word is kind 12 with the status in bits 1..0; after the input words come kind 14 words for the
-- output tokens, rising strictly. In a list or journal the first word is kind 12, and status 3 is against its form. No
-- bytes is a list, and a journal, of no instants." A list is here a journal whose statuses are 0 and whose instants
-- have no outputs.
--     Form, Good, Bytes, Word  the form of a list or journal: `Ok`, or `Err` of what is against it; and its three cases by name
--     token_of, status_in      the token of an input or output word; the status of an instant word
--     is_instant               a word of kind 12: an instant starts with it
--     rises                    of two words of one kind, the later one has the higher token
--     may_follow               whether a word has its form after the word before it, in a journal or in a list, at T tokens;
--                              the word before the first is 0, which is of no kind
--     first_against            the lowest word against its form
--     form_of                  numbers 12 and 13: the form of bytes
use Rattle.std.specs.Prelude.{Bool, cond, ◌&&◌, ◌||◌, List, [], ◌∷◌, ℕ, suc, ◌%◌, eqb, ltb, length, Result, Ok, Err}
use Rattle.words.specs.Word.{words, field, kind}
use Rattle.format.specs.Format.{is_word}
use Rattle.journal_form.specs.declared.Misform.{Misform}
use Rattle.journal_form.specs.declared.Misform.TheVariants as Against

abbrev pub Form : Type 0
Form = Result (Unit {0}) Misform

pattern abbrev pub Good : Form
Good = Ok tt

pattern abbrev pub Bytes : Form
Bytes = Err Against.Bytes

pattern abbrev pub Word : ℕ → Form
Word k = Err (Against.Word k)

abbrev pub token_of : ℕ → ℕ
token_of w = field w 0 8

abbrev pub status_in : ℕ → ℕ
status_in w = field w 0 2

abbrev pub is_instant : ℕ → Bool
is_instant w = eqb (kind w) 12

abbrev pub rises : ℕ → ℕ → ℕ → Bool
rises k last w = eqb (kind last) k && ltb (token_of last) (token_of w)

unfoldable pub may_follow : Bool → ℕ → ℕ → ℕ → Bool
may_follow journal tokens last w =
    (is_word 12 2 w && ltb (status_in w) (cond journal 3 1))
    || (is_word 13 8 w && ltb (token_of w) tokens && (is_instant last || rises 13 last w))
    || (journal && is_word 14 8 w && ltb (token_of w) tokens && (is_instant last || eqb (kind last) 13 || rises 14 last w))

-- from word k on, after a given word
unfoldable pub first_against : Bool → ℕ → ℕ → ℕ → List ℕ → Form
first_against journal tokens k last [] = Good
first_against journal tokens k last (w ∷ ws) = cond (may_follow journal tokens last w) (first_against journal tokens (suc k) w ws) (Word k)

unfoldable pub form_of : Bool → ℕ → List ℕ → Form
form_of journal tokens bytes = cond (eqb (length bytes % 4) 0) (first_against journal tokens 0 0 (words bytes)) Bytes
