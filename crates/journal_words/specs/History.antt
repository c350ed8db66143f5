-- The journal of a history: what the definition of an instant answers along a list of instants, as words.
--     instant_word, input_word, output_word
--     entry          the words of one instant: its status, its inputs and what goes to the ports
--     history        the words of the instants of a list, from a state on
--     RisingBelow    tokens rise strictly and are below T: the inputs of an instant in a list or journal
--     IsHistory      bytes are the journal of n instants from a state, for some inputs
use Rattle.std.specs.Prelude.{◌≡◌, ℕ, ◌+◌, ◌*◌, ◌^◌, ◌<◌, length}
use mathlib.Core.List.{List, [], ◌∷◌, ◌++◌, map, Memᴰ}
use Rattle.laws.specs.Rising.{Rising}
use Rattle.tcc.specs.Score.{Score}
use Rattle.tcc.specs.Instant.{Answer, State, output, answer, after}
use Rattle.bits.specs.Bits.{bytes_of}

abbrev pub instant_word : ℕ → ℕ
instant_word status = 12 * 2 ^ 28 + status

abbrev pub input_word : ℕ → ℕ
input_word t = 13 * 2 ^ 28 + t

abbrev pub output_word : ℕ → ℕ
output_word t = 14 * 2 ^ 28 + t

unfoldable pub instant_words : ℕ → List ℕ → List ℕ → List ℕ
instant_words status inputs outputs = instant_word status ∷ map input_word inputs ++ map output_word outputs

abbrev pub entry : Score → List ℕ → Answer → List ℕ
entry sc inputs a = instant_words a.status inputs (output sc a.status a.store)

unfoldable pub history : Score → State → List (List ℕ) → List ℕ
history sc st [] = []
history sc st (inputs ∷ more) = entry sc inputs (answer sc st inputs) ++ history sc (after (answer sc st inputs)) more

pub record RisingBelow (tokens : ℕ) (l : List ℕ) : Type 0 where
  pub rises : Rising l
  pub below : (t : ℕ) → Memᴰ t l → t < tokens

pub record IsHistory (sc : Score) (st : State) (bytes : List ℕ) (n : ℕ) : Type 0 where
  pub inputs : List (List ℕ)
  pub rising : (l : List ℕ) → Memᴰ l inputs → RisingBelow sc.tokens l
  pub instants : length inputs ≡ n
  pub is : bytes ≡ bytes_of (history sc st inputs)
