-- Contracts of inner functions: what is known once the pairs and the asked sets of a draft are gathered, and fit.
--     agents_in, procedures_in, sets_in  the pairs of agents, of procedures, the asked sets
--     Gathered       the pairs and the asked sets stand in two tables, the counts are theirs, and no limit is passed
use Rattle.std.specs.Prelude.{◌≡◌, true, List, ℕ, ◌≤◌, length}
use Rattle.words.specs.Word.{words}
use Rattle.format.specs.Decode.{sizes}
use Rattle.draft_pairs.specs.Pairs.{most_pairs}
use Rattle.draft_table.specs.Tables.{keys}
use Rattle.draft_plain.specs.Places.{places, agent_places, procedure_places}
use Rattle.draft_plain.specs.Plain.{asked_sets, plain_of, fits}
use Rattle.draft_format.specs.DraftFile.{decode_draft, draft_verdict}
use Rattle.draft_format.specs.Translatable.{Translatable}
use Rattle.check_verdicts.specs.Verdict.{Accepted}
use Rattle.draft_gathering.specs.declared.Counts.{Counts}

abbrev pub agents_in : List ℕ → List ℕ
agents_in s = agent_places (places (decode_draft s))

abbrev pub procedures_in : List ℕ → List ℕ
procedures_in s = procedure_places (places (decode_draft s))

abbrev pub sets_in : List ℕ → List ℕ
sets_in s = asked_sets (decode_draft s) (agents_in s)

pub record Gathered (s : List ℕ) (n : Counts) (table sets : List (List ℕ)) : Type 0 where
  pub accepted : draft_verdict s ≡ Accepted
  pub translatable : Translatable s
  pub tokens_are : n.tokens ≡ (sizes s).tokens
  pub agents_are : n.agents ≡ (sizes s).agents
  pub procedures_are : n.procedures ≡ (sizes s).procedures
  pub words_are : n.words ≡ length (words s)
  pub pairs_fit : n.pairs ≤ most_pairs
  pub pairs_are : keys n.pairs table ≡ places (decode_draft s)
  pub copied_are : n.copied ≡ length (agents_in s)
  pub sets_fit : n.sets ≤ most_pairs
  pub sets_are : keys n.sets sets ≡ sets_in s
  pub fitting : fits (plain_of (decode_draft s)) ≡ true
  pub table_long : length table ≡ most_pairs
  pub sets_long : length sets ≡ most_pairs
