-- "Each instant lasts until the next kind 12 word or the end."
--     up_to             the words before the next instant word, or all
--     instants_in      the words of each instant
--     tokens_of        the tokens of the words of a kind, in their order
--     inputs_in        the input tokens of an instant
--     input_lists      the input tokens of each instant of a list or journal, given its bytes
use Rattle.std.specs.Prelude.{cond, List, [], ◌∷◌, map, ℕ, eqb}
use Rattle.laws.specs.Sets.{keep}
use Rattle.words.specs.Word.{words, kind}
use Rattle.journal_form.specs.Form.{token_of, is_instant}

unfoldable pub up_to : List ℕ → List ℕ
up_to [] = []
up_to (w ∷ ws) = cond (is_instant w) [] (w ∷ up_to ws)

unfoldable pub instants_in : List ℕ → List (List ℕ)
instants_in [] = []
instants_in (w ∷ ws) = cond (is_instant w) ((w ∷ up_to ws) ∷ instants_in ws) (instants_in ws)

unfoldable pub tokens_of : ℕ → List ℕ → List ℕ
tokens_of k ws = map token_of (keep (λ w. eqb (kind w) k) ws)

abbrev pub inputs_in : List ℕ → List ℕ
inputs_in ws = tokens_of 13 ws

unfoldable pub input_lists : List ℕ → List (List ℕ)
input_lists bytes = map inputs_in (instants_in (words bytes))
