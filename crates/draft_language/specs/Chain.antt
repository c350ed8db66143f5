-- A chain of finished orders of a draft along a list of instants, and the journal that it shows.
--     InputsKnown    a list of instants over the tokens below T
--     Chain          finished orders at each instant, each starting with the very copies that the one before left awake, and
--                    how each ends; once one aborts, every later instant is aborted
--     start_copies   "a draft that starts has procedure 0's root under no token"
--     store_status   the status of a quiet instant: 1 where token 0 is in the store, and 0
--     shown_at       the words of one instant: its status, its inputs and what goes to the ports
--     shown          the words of the instants of a chain
--     Journal        some chain from the start of a draft shows these words
use Rattle.std.specs.Prelude.{◌≡◌, cond, ℕ, ◌<◌}
use mathlib.Core.List.{List, [], ◌∷◌, ◌++◌, map, Memᴰ}
use Rattle.laws.specs.Sets.{has}
use Rattle.tcc.specs.Store.{Closes}
use Rattle.tcc.specs.Instant.{output}
use Rattle.journal_words.specs.History.{instant_words}
use Rattle.draft_language.specs.Draft.{Draft, root_of, whens}
use Rattle.draft_language.specs.Order.{Copy, Item, End, aborted, left, Order, Quiet, awake_next, start}

abbrev pub InputsKnown : ℕ → List (List ℕ) → Type 0
InputsKnown tokens instants = (inputs : List ℕ) → Memᴰ inputs instants → (t : ℕ) → Memᴰ t inputs → t < tokens

pub data Chain (d : Draft) : List Copy → List (List ℕ) → List End → Type 0 where
  none : {copies : List Copy} → Chain d copies [] []
  then : {copies : List Copy} {inputs s s' : List ℕ} {rest : List (List ℕ)} {steps l : List Item} {ends : List End} →
      Closes (whens d) [] s → Order d (start copies inputs) s steps (left l s') → Quiet d l s' →
      Chain d (awake_next d s' l) rest ends → Chain d copies (inputs ∷ rest) (left l s' ∷ ends)
  aborts : {copies : List Copy} {inputs s : List ℕ} {rest : List (List ℕ)} {steps : List Item} →
      Closes (whens d) [] s → Order d (start copies inputs) s steps aborted →
      Chain d copies (inputs ∷ rest) (aborted ∷ map (λ later. aborted) rest)

abbrev pub start_copies : Draft → List Copy
start_copies d = record { agent = root_of d 0; under = [] } ∷ []

abbrev pub store_status : List ℕ → ℕ
store_status s = cond (has 0 s) 1 0

unfoldable pub shown_at : Draft → List ℕ → End → List ℕ
shown_at d inputs aborted = instant_words 2 inputs []
shown_at d inputs (left l s) = instant_words (store_status s) inputs (output (whens d) (store_status s) s)

unfoldable pub shown : Draft → List (List ℕ) → List End → List ℕ
shown d [] ends = []
shown d (inputs ∷ rest) [] = []
shown d (inputs ∷ rest) (e ∷ ends) = shown_at d inputs e ++ shown d rest ends

pub record Journal (d : Draft) (instants : List (List ℕ)) (words : List ℕ) : Type 0 where
  pub ends : List End
  pub chain : Chain d (start_copies d) instants ends
  pub shows : words ≡ shown d instants ends
