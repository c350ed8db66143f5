-- "A draft is a score in which an agent word may be kind 15, watch."
--     Draft                    T tokens, the ports, the agents as written, the root of each procedure, the rules
--     draft_agent_at, root_of  agent i; the root agent of procedure p
--     as_when, whens           "tested like a when", "unguarded like one": a watch, and each watch of a draft, read as a when
--     LawfulDraft              what every draft has that the check of drafts accepts
use Rattle.std.specs.Prelude.{ℕ, List, map, get_or}
use Rattle.tcc.specs.Closure.{Rule}
use Rattle.tcc.specs.Score.{Score}
use Rattle.tcc.specs.Lawful.{Lawful}
use Rattle.tcc.specs.declared.Agent.{Agent}
use Rattle.tcc.specs.declared.Agent.TheVariants.{Skip, When}
use Rattle.draft_language.specs.declared.DraftAgent.{DraftAgent}
use Rattle.draft_language.specs.declared.DraftAgent.TheVariants.{Plain, Watch}

pub record Draft : Type 0 where
  pub tokens : ℕ
  pub lowest_port : ℕ
  pub highest_port : ℕ
  pub agents : List DraftAgent
  pub roots : List ℕ
  pub rules : List (Rule ℕ)

abbrev pub draft_agent_at : Draft → ℕ → DraftAgent
draft_agent_at d i = get_or d.agents i (Plain Skip)

abbrev pub root_of : Draft → ℕ → ℕ
root_of d p = get_or d.roots p 0

abbrev pub as_when : DraftAgent → Agent
as_when (Plain a) = a
as_when (Watch t b) = When t b

-- what does not turn on watches is this score's: the store, the ports, the weights
abbrev pub whens : Draft → Score
whens d =
    record {
      tokens = d.tokens;
      lowest_port = d.lowest_port;
      highest_port = d.highest_port;
      agents = map as_when d.agents;
      roots = d.roots;
      rules = d.rules;
    }

abbrev pub LawfulDraft : Draft → Type 0
LawfulDraft d = Lawful (whens d)
