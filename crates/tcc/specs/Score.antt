-- A decoded score, and what its agents name.
--     Score                  T tokens, the agents, the root of each procedure, the rules, the ports
--     agent_at, root_of      agent i; the root agent of procedure p
--     tokens_of              the tokens that an agent names
--     parts_of                its body, or its halves
--     procedures_of          the procedure that it calls
use Rattle.std.specs.Prelude.{ℕ, List, [], ◌∷◌, get_or}
use Rattle.tcc.specs.Closure.{Rule}
use Rattle.tcc.specs.declared.Agent.{Agent}
use Rattle.tcc.specs.declared.Agent.TheVariants.{Skip, Abort, Tell, Parallel, When, Next, Unless, Call}

pub record Score : Type 0 where
  pub tokens : ℕ
  pub lowest_port : ℕ
  pub highest_port : ℕ
  pub agents : List Agent
  pub roots : List ℕ
  pub rules : List (Rule ℕ)

abbrev pub agent_at : Score → ℕ → Agent
agent_at sc i = get_or sc.agents i Skip

abbrev pub root_of : Score → ℕ → ℕ
root_of sc p = get_or sc.roots p 0

abbrev pub tokens_of : Agent → List ℕ
tokens_of Skip = []
tokens_of Abort = []
tokens_of (Tell t) = t ∷ []
tokens_of (Parallel a b) = []
tokens_of (When t b) = t ∷ []
tokens_of (Next b) = []
tokens_of (Unless t b) = t ∷ []
tokens_of (Call p) = []

abbrev pub parts_of : Agent → List ℕ
parts_of Skip = []
parts_of Abort = []
parts_of (Tell t) = []
parts_of (Parallel a b) = a ∷ b ∷ []
parts_of (When t b) = b ∷ []
parts_of (Next b) = b ∷ []
parts_of (Unless t b) = b ∷ []
parts_of (Call p) = []

abbrev pub procedures_of : Agent → List ℕ
procedures_of Skip = []
procedures_of Abort = []
procedures_of (Tell t) = []
procedures_of (Parallel a b) = []
procedures_of (When t b) = []
procedures_of (Next b) = []
procedures_of (Unless t b) = []
procedures_of (Call p) = p ∷ []
