-- What the plain score is beside the draft.
--     PlainLawful      a plain score that fits is lawful, so that the score check accepts its bytes
--     WithoutWatches   no agent is a watch
--     AllOnPaths       every agent and every procedure lies on a path from procedure 0
--     Unchanged        "a score without watches, all of whose agents and procedures lie on paths from procedure 0, is
--                      returned" as it is
use Rattle.std.specs.Prelude.{◌≡◌, true, ℕ, ◌<◌, length}
use Rattle.tcc.specs.Lawful.{Lawful}
use Rattle.draft_language.specs.Draft.{Draft, draft_agent_at, whens, LawfulDraft}
use Rattle.draft_language.specs.declared.DraftAgent.TheVariants.{Watch}
use Rattle.draft_plain.specs.Stands.{Stands, agent, procedure}
use Rattle.draft_plain.specs.Plain.{plain_of, fits}

abbrev pub PlainLawful : Type 0
PlainLawful = (d : Draft) → LawfulDraft d → fits (plain_of d) ≡ true → Lawful (plain_of d)

abbrev pub WithoutWatches : Draft → Type 0
WithoutWatches d = (i t b : ℕ) → draft_agent_at d i ≡ Watch t b → ⊥

pub record AllOnPaths (d : Draft) : Type 0 where
  pub agents_on : (i : ℕ) → i < length d.agents → Stands d (agent i 0)
  pub procedures_on : (p : ℕ) → p < length d.roots → Stands d (procedure p 0)

abbrev pub Unchanged : Type 0
Unchanged = (d : Draft) → LawfulDraft d → WithoutWatches d → AllOnPaths d → plain_of d ≡ whens d
