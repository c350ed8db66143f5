-- Contracts of inner functions: the words of one instant of a journal, held against what the run writes.
--     Accepts        they are those that the run writes, and where the score stands after them
--     Held           what holding them against an answer says: where the score stands after it, or the first thing wrong
use Rattle.std.specs.Prelude.{◌≡◌, true, false, List, ℕ, Result, Ok, Err}
use Rattle.tcc.specs.Instant.{Answer, after}
use Rattle.format.specs.Decode.{sizes, decode}
use Rattle.lent.specs.States.{state_fault, state_of, as_bytes, LawfulState}
use Rattle.instant_state.specs.declared.Standing.{Standing}
use Rattle.instant_state.specs.Standing.{state_in}
use Rattle.journal_instants.specs.Instants.{inputs_in}
use Rattle.journal_words.specs.History.{entry}
use Rattle.journal_check.specs.declared.Mismatch.{Mismatch}
use Rattle.journal_check.specs.declared.Mismatch.TheVariants.{Unlawful, Differs}
use Rattle.journal_check.specs.Check.{same}

pub record Accepts (score : List ℕ) (a : Answer) (ws : List ℕ) (standing : Standing) : Type 0 where
  pub faultless : state_fault (sizes score).agents (as_bytes (after a)) ≡ false
  pub same_words : same ws (entry (decode score) (inputs_in ws) a) ≡ true
  pub stands : state_in standing ≡ state_of (as_bytes (after a))
  pub lawful : LawfulState (sizes score).agents (state_in standing)

abbrev pub Held : List ℕ → Answer → List ℕ → Result Standing Mismatch → Type 0
Held score a ws (Ok standing) = Accepts score a ws standing
Held score a ws (Err Unlawful) = state_fault (sizes score).agents (as_bytes (after a)) ≡ true
Held score a ws (Err Differs) = (state_fault (sizes score).agents (as_bytes (after a)) ≡ false) × (same ws (entry (decode score) (inputs_in ws) a) ≡ false)
