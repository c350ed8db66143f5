-- The plain score of a draft.
--     asks_for       the set that an agent under a set asks for at quiet: "a next under a set that is not empty becomes an
--                    unless on that set; an unless asks for its own token together with the set"
--     asked_sets     "each distinct set of two or more that is so asked", rising
--     asked_token    "a set of one token is asked for directly"; a larger one by its new token, "from T on by set"
--     member_rules   "a rule from each member (both premise fields the member)", by new token and then member
--     plain_agent    the agent of a pair
--     plain_by       the plain score, given the pairs and the asked sets
--     plain_of        the plain score
--     fits           T, N, P and the rules pass no limit
use Rattle.std.specs.Prelude.{Bool, cond, ◌&&◌, List, [], ◌∷◌, ◌++◌, map, ℕ, suc, ◌+◌, ◌-◌, eqb, leb, length, get_or}
use Rattle.laws.specs.Sets.{keep}
use Rattle.tcc.specs.Limits.{most_tokens, most_agents, most_procedures, most_rules}
use Rattle.tcc.specs.Closure.{Rule}
use Rattle.tcc.specs.Score.{Score}
use Rattle.tcc.specs.declared.Agent.{Agent}
use Rattle.tcc.specs.declared.Agent.TheVariants.{Skip, Abort, Tell, Parallel, When, Next, Unless, Call}
use Rattle.draft_language.specs.Draft.{Draft, draft_agent_at, root_of, as_when}
use Rattle.draft_pairs.specs.TokenSets.{with, members, several}
use Rattle.draft_pairs.specs.Pairs.{pair, number_in, set_in, insert_all, index_of}
use Rattle.draft_plain.specs.Places.{procedure_at, target, places, agent_places, procedure_places}

abbrev pub asks_for : ℕ → Agent → List ℕ
asks_for set Skip = []
asks_for set Abort = []
asks_for set (Tell t) = []
asks_for set (Parallel a b) = []
asks_for set (When t b) = []
asks_for set (Next b) = set ∷ []
asks_for set (Unless t b) = with t set ∷ []
asks_for set (Call p) = []

-- the agent of a pair: no pair has a watch
abbrev pub agent_in : Draft → ℕ → Agent
agent_in d k = as_when (draft_agent_at d (number_in k))

abbrev pub all_asked : Draft → List ℕ → List ℕ
all_asked d [] = []
all_asked d (k ∷ agents) = keep several (asks_for (set_in k) (agent_in d k)) ++ all_asked d agents

unfoldable pub asked_sets : Draft → List ℕ → List ℕ
asked_sets d agents = insert_all (all_asked d agents) []

unfoldable pub asked_token : ℕ → List ℕ → ℕ → ℕ
asked_token tokens sets set = cond (several set) (tokens + index_of set sets) (get_or (members set) 0 0)

abbrev pub member_rules : ℕ → List ℕ → List (Rule ℕ)
member_rules u [] = []
member_rules u (set ∷ sets) = map (λ m. record { premises = m ∷ m ∷ []; conclusion = u }) (members set) ++ member_rules (suc u) sets

module _ (d : Draft) (agents procedures sets : List ℕ) where
  -- where the agent that a reference leads to stands
  abbrev pub stands_at : ℕ → ℕ → ℕ
  stands_at set b = index_of (target d b set) agents

  abbrev pub plain_agent : ℕ → Agent → Agent
  plain_agent set Skip = Skip
  plain_agent set Abort = Abort
  plain_agent set (Tell t) = Tell t
  plain_agent set (Parallel a b) = Parallel (stands_at set a) (stands_at set b)
  plain_agent set (When t b) = When t (stands_at set b)
  plain_agent set (Next b) = cond (eqb set 0) (Next (stands_at set b)) (Unless (asked_token d.tokens sets set) (stands_at set b))
  plain_agent set (Unless t b) = Unless (asked_token d.tokens sets (with t set)) (stands_at set b)
  plain_agent set (Call p) = Call (index_of (pair (procedure_at p) set) procedures)

  abbrev pub plain_by : Score
  plain_by =
      record {
        tokens = d.tokens + length sets;
        lowest_port = d.lowest_port;
        highest_port = d.highest_port;
        agents = map (λ k. plain_agent (set_in k) (agent_in d k)) agents;
        roots = map (λ k. stands_at (set_in k) (root_of d (number_in k - most_agents))) procedures;
        rules = d.rules ++ member_rules d.tokens sets;
      }

unfoldable pub plain_of : Draft → Score
plain_of d = plain_by d (agent_places (places d)) (procedure_places (places d)) (asked_sets d (agent_places (places d)))

abbrev pub fits : Score → Bool
fits sc = leb sc.tokens most_tokens && leb (length sc.agents) most_agents && leb (length sc.roots) most_procedures && leb (length sc.rules) most_rules
