-- Contracts of inner functions: what gathering comes to.
--     PairsFit       the pairs stand in a table, and no limit of agents and procedures is passed
--     GatheredBy     all is gathered, or a limit is passed
use Rattle.std.specs.Prelude.{◌≡◌, false, List, ℕ, ◌≤◌, length, Option, Some, None}
use Rattle.tcc.specs.Limits.{most_agents, most_procedures}
use Rattle.format.specs.declared.Sizes.{Sizes}
use Rattle.format.specs.Decode.{sizes}
use Rattle.draft_pairs.specs.Pairs.{most_pairs}
use Rattle.draft_table.specs.Tables.{keys}
use Rattle.draft_plain.specs.Places.{places}
use Rattle.draft_plain.specs.Plain.{plain_of, fits}
use Rattle.draft_format.specs.DraftFile.{decode_draft, draft_verdict}
use Rattle.check_verdicts.specs.Verdict.{Accepted}
use Rattle.draft_gathering.specs.Gathered.{agents_in, procedures_in, Gathered}
use Rattle.draft_gathering.specs.declared.Counts.{Counts}

pub record PairsFit (s : List ℕ) (head : Sizes) (table : List (List ℕ)) (pairs copied : ℕ) : Type 0 where
  pub accepted : draft_verdict s ≡ Accepted
  pub head_is : head ≡ sizes s
  pub pairs_fit : pairs ≤ most_pairs
  pub pairs_are : keys pairs table ≡ places (decode_draft s)
  pub copied_fit : copied ≤ most_agents
  pub copied_are : keys copied table ≡ agents_in s
  pub procedures_fit : length (procedures_in s) ≤ most_procedures
  pub table_long : length table ≡ most_pairs

abbrev pub GatheredBy : List ℕ → List (List ℕ) → List (List ℕ) → Option Counts → Type 0
GatheredBy s table sets None = fits (plain_of (decode_draft s)) ≡ false
GatheredBy s table sets (Some n) = Gathered s n table sets
