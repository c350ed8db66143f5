-- Contracts of inner functions: the words of one instant as a good form has them.
--     Formed         they are the instant's word, its inputs and its outputs, whose tokens rise and are below T
use Rattle.std.specs.Prelude.{◌≡◌, List, ℕ, get_or}
use Rattle.journal_form.specs.Form.{status_in}
use Rattle.journal_instants.specs.Instants.{tokens_of, inputs_in}
use Rattle.journal_words.specs.History.{instant_words, RisingBelow}

pub record Formed (tokens : ℕ) (ws : List ℕ) : Type 0 where
  pub is : ws ≡ instant_words (status_in (get_or ws 0 0)) (inputs_in ws) (tokens_of 14 ws)
  pub inputs : RisingBelow tokens (inputs_in ws)
  pub outputs : RisingBelow tokens (tokens_of 14 ws)
