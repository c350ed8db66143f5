-- `plain_agent`: by the form of the agent.
--     written          what is written of the agent of the pair
--     listed_as        the agent of the pair, where its form is known
use mathlib.Core.Path.{ap₂}
use mathlib.Core.List.{List, Memᴰ}
use Rattle.std.proofs.Common.{◌≡◌, refl, sym, ap, ◌∙◌, ℕ}
use Rattle.tcc.specs.declared.Agent.{Agent}
use Rattle.tcc.specs.declared.Agent.TheVariants.{Parallel, When}
use Rattle.draft_language.specs.Draft.{draft_agent_at}
use Rattle.draft_language.specs.declared.DraftAgent.{DraftAgent}
use Rattle.draft_language.specs.declared.DraftAgent.TheVariants.{Plain}
use Rattle.draft_pairs.specs.Pairs.{number_in}
use Rattle.draft_pairs.specs.Rows.{row_value}
use Rattle.draft_format.specs.DraftFile.{decode_draft}
use Rattle.draft_gathering.specs.declared.Counts.{Counts}
use Rattle.draft_gathering.specs.Gathered.{Gathered, agents_in}
use Rattle.draft_words.proofs.Standing.{number_known, never_watch, Listed, listing, part_stands, agent_becomes}
use Rattle.draft_words.proofs.agents.plain_agent.Goals as goal

module _ (s : List ℕ) (v : ℕ) {i : ℕ} {d : DraftAgent} (number : i ≡ number_in v) (read : d ≡ draft_agent_at (decode_draft s) i) where
  written : draft_agent_at (decode_draft s) (number_in v) ≡ d
  written = ap (draft_agent_at (decode_draft s)) (sym number) ∙ sym read

  listed_as : {n : Counts} {table sets : List (List ℕ)} {agent a : Agent} → Gathered s n table sets → Memᴰ v (agents_in s) → d ≡ Plain agent → agent ≡ a → Listed s n table sets v a
  listed_as g m plain e = listing g m (written ∙ plain ∙ ap Plain e)

pub draft_agent_at-requires-clause-i_in_bounds : goal.draft_agent_at-requires-clause-i_in_bounds
draft_agent_at-requires-clause-i_in_bounds c = (number_known c.args.source.gathered c.requires.fact c.number_of.ensures).0

pub draft_agent_at-requires-clause-i_bound : goal.draft_agent_at-requires-clause-i_bound
draft_agent_at-requires-clause-i_bound c = (number_known c.args.source.gathered c.requires.fact c.number_of.ensures).1

pub returns-in_default : goal.returns-in_default
returns-in_default c = absurd (never_watch c.args.source.gathered c.requires.fact (written c.args.source.draft.now (row_value c.args.row) c.number_of.ensures c.draft_agent_at.ensures ∙ c.in_default.is))

pub stands_at-a-requires-clause-reference_lt_agents : goal.stands_at-a-requires-clause-reference_lt_agents
stands_at-a-requires-clause-reference_lt_agents c = (part_stands (listed_as c.args.source.draft.now (row_value c.args.row) c.number_of.ensures c.draft_agent_at.ensures c.args.source.gathered c.requires.fact c.in-Plain.is c.in-Parallel.is) _ (Memᴰ.head refl)).1.0

pub stands_at-a-requires-clause-fact : goal.stands_at-a-requires-clause-fact
stands_at-a-requires-clause-fact c = (part_stands (listed_as c.args.source.draft.now (row_value c.args.row) c.number_of.ensures c.draft_agent_at.ensures c.args.source.gathered c.requires.fact c.in-Plain.is c.in-Parallel.is) _ (Memᴰ.head refl)).1.1

pub stands_at-b-requires-clause-reference_lt_agents : goal.stands_at-b-requires-clause-reference_lt_agents
stands_at-b-requires-clause-reference_lt_agents c = (part_stands (listed_as c.args.source.draft.now (row_value c.args.row) c.number_of.ensures c.draft_agent_at.ensures c.args.source.gathered c.requires.fact c.in-Plain.is c.in-Parallel.is) _ (Memᴰ.tail (Memᴰ.head refl))).1.0

pub stands_at-b-requires-clause-fact : goal.stands_at-b-requires-clause-fact
stands_at-b-requires-clause-fact c = (part_stands (listed_as c.args.source.draft.now (row_value c.args.row) c.number_of.ensures c.draft_agent_at.ensures c.args.source.gathered c.requires.fact c.in-Plain.is c.in-Parallel.is) _ (Memᴰ.tail (Memᴰ.head refl))).1.1

pub stands_at-requires-clause-reference_lt_agents : goal.stands_at-requires-clause-reference_lt_agents
stands_at-requires-clause-reference_lt_agents c = (part_stands (listed_as c.args.source.draft.now (row_value c.args.row) c.number_of.ensures c.draft_agent_at.ensures c.args.source.gathered c.requires.fact c.in-Plain.is c.in-When.is) _ (Memᴰ.head refl)).1.0

pub stands_at-requires-clause-fact : goal.stands_at-requires-clause-fact
stands_at-requires-clause-fact c = (part_stands (listed_as c.args.source.draft.now (row_value c.args.row) c.number_of.ensures c.draft_agent_at.ensures c.args.source.gathered c.requires.fact c.in-Plain.is c.in-When.is) _ (Memᴰ.head refl)).1.1

pub plain_next-requires-clause-row_value : goal.plain_next-requires-clause-row_value
plain_next-requires-clause-row_value c = (listed_as c.args.source.draft.now (row_value c.args.row) c.number_of.ensures c.draft_agent_at.ensures c.args.source.gathered c.requires.fact c.in-Plain.is c.in-Next.is).written

pub plain_unless-requires-clause-row_value : goal.plain_unless-requires-clause-row_value
plain_unless-requires-clause-row_value c = (listed_as c.args.source.draft.now (row_value c.args.row) c.number_of.ensures c.draft_agent_at.ensures c.args.source.gathered c.requires.fact c.in-Plain.is c.in-Unless.is).written

pub plain_call-requires-clause-row_value : goal.plain_call-requires-clause-row_value
plain_call-requires-clause-row_value c = (listed_as c.args.source.draft.now (row_value c.args.row) c.number_of.ensures c.draft_agent_at.ensures c.args.source.gathered c.requires.fact c.in-Plain.is c.in-Call.is).written

pub returns-in-Skip : goal.returns-in-Skip
returns-in-Skip c = agent_becomes (listed_as c.args.source.draft.now (row_value c.args.row) c.number_of.ensures c.draft_agent_at.ensures c.args.source.gathered c.requires.fact c.in-Plain.is c.in-Skip.is) refl

pub returns-in-Abort : goal.returns-in-Abort
returns-in-Abort c = agent_becomes (listed_as c.args.source.draft.now (row_value c.args.row) c.number_of.ensures c.draft_agent_at.ensures c.args.source.gathered c.requires.fact c.in-Plain.is c.in-Abort.is) refl

pub returns-in-Tell : goal.returns-in-Tell
returns-in-Tell c = agent_becomes (listed_as c.args.source.draft.now (row_value c.args.row) c.number_of.ensures c.draft_agent_at.ensures c.args.source.gathered c.requires.fact c.in-Plain.is c.in-Tell.is) refl

pub returns-in-Parallel : goal.returns-in-Parallel
returns-in-Parallel c = agent_becomes (listed_as c.args.source.draft.now (row_value c.args.row) c.number_of.ensures c.draft_agent_at.ensures c.args.source.gathered c.requires.fact c.in-Plain.is c.in-Parallel.is) (ap₂ Parallel c.stands_at-a.ensures c.stands_at-b.ensures)

pub returns-in-When : goal.returns-in-When
returns-in-When c = agent_becomes (listed_as c.args.source.draft.now (row_value c.args.row) c.number_of.ensures c.draft_agent_at.ensures c.args.source.gathered c.requires.fact c.in-Plain.is c.in-When.is) (ap (When c.in-When.token) c.stands_at.ensures)

pub returns-in-Next : goal.returns-in-Next
returns-in-Next c = agent_becomes (listed_as c.args.source.draft.now (row_value c.args.row) c.number_of.ensures c.draft_agent_at.ensures c.args.source.gathered c.requires.fact c.in-Plain.is c.in-Next.is) c.plain_next.ensures

pub returns-in-Unless : goal.returns-in-Unless
returns-in-Unless c = agent_becomes (listed_as c.args.source.draft.now (row_value c.args.row) c.number_of.ensures c.draft_agent_at.ensures c.args.source.gathered c.requires.fact c.in-Plain.is c.in-Unless.is) c.plain_unless.ensures

pub returns-in-Call : goal.returns-in-Call
returns-in-Call c = agent_becomes (listed_as c.args.source.draft.now (row_value c.args.row) c.number_of.ensures c.draft_agent_at.ensures c.args.source.gathered c.requires.fact c.in-Plain.is c.in-Call.is) c.plain_call.ensures
