-- The pairs that the plain score is made of, computed: an agent other than a watch, or a procedure, with a set that it
-- stands under.
--     procedure_at          a procedure's number in a pair: procedures come after agents, whose numbers are lower
--     target                "a reference to a watch goes on to its body with the token added, through several watches if need be"
--     leads_to              the pairs that the references and calls of a pair lead to
--     grown                 the pairs of a list and all that they lead to
--     places                the pairs, rising, from procedure 0 under no token
--     agent_places, procedure_places    those of agents, those of procedures
use Rattle.std.specs.Prelude.{cond, List, [], ◌∷◌, ◌++◌, map, ℕ, zero, suc, ◌+◌, ◌-◌, eqb, ltb, leb, length}
use Rattle.laws.specs.Sets.{keep}
use Rattle.tcc.specs.Limits.{most_agents}
use Rattle.tcc.specs.Score.{parts_of, procedures_of}
use Rattle.draft_language.specs.Draft.{Draft, draft_agent_at, root_of}
use Rattle.draft_language.specs.declared.DraftAgent.{DraftAgent}
use Rattle.draft_language.specs.declared.DraftAgent.TheVariants.{Plain, Watch}
use Rattle.draft_pairs.specs.TokenSets.{with}
use Rattle.draft_pairs.specs.Pairs.{most_pairs, pair, number_in, set_in, insert_all}

abbrev pub procedure_at : ℕ → ℕ
procedure_at p = most_agents + p

-- n bounds the watches passed: a body has a lower number than its agent
abbrev pub target_within : Draft → ℕ → ℕ → ℕ → ℕ
target_within d zero i set = pair i set
target_within d (suc n) i set = elim (draft_agent_at d i) [ Plain a ↦ pair i set | Watch t b ↦ target_within d n b (with t set) ]

unfoldable pub target : Draft → ℕ → ℕ → ℕ
target d i set = target_within d (suc i) i set

abbrev pub agent_leads : Draft → ℕ → DraftAgent → List ℕ
agent_leads d set (Plain a) = map (λ b. target d b set) (parts_of a) ++ map (λ p. pair (procedure_at p) set) (procedures_of a)
agent_leads d set (Watch t b) = []

unfoldable pub leads_to : Draft → ℕ → List ℕ
leads_to d k = cond (ltb (number_in k) most_agents) (agent_leads d (set_in k) (draft_agent_at d (number_in k))) (target d (root_of d (number_in k - most_agents)) (set_in k) ∷ [])

abbrev pub all_lead : Draft → List ℕ → List ℕ
all_lead d [] = []
all_lead d (k ∷ l) = leads_to d k ++ all_lead d l

abbrev pub grown : Draft → List ℕ → List ℕ
grown d l = insert_all (all_lead d l) l

-- until nothing is added; n bounds the turns
abbrev pub places_within : Draft → ℕ → List ℕ → List ℕ
places_within d zero l = l
places_within d (suc n) l = cond (eqb (length (grown d l)) (length l)) l (places_within d n (grown d l))

-- each turn adds a pair, and a plain score can have no more than `most_pairs`
unfoldable pub places : Draft → List ℕ
places d = places_within d most_pairs (pair (procedure_at 0) 0 ∷ [])

abbrev pub agent_places : List ℕ → List ℕ
agent_places l = keep (λ k. ltb (number_in k) most_agents) l

abbrev pub procedure_places : List ℕ → List ℕ
procedure_places l = keep (λ k. leb most_agents (number_in k)) l
