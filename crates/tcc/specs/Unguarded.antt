-- "A procedure calls another unguarded if its root leads to the call through parallel and when alone."
--     Leads        an agent leads to a call of a procedure through parallel and when alone
--     Reaches      one or more unguarded calls lead from a procedure to a procedure
--     circular     whether unguarded calls lead from a procedure back to itself, computed
use Rattle.std.specs.Prelude.{◌≡◌, Bool, false, List, [], ◌∷◌, ◌++◌, map, ℕ, zero, suc, length, eqb}
use Rattle.laws.specs.Sets.{any, below}
use Rattle.tcc.specs.Closure.{Rule, close}
use Rattle.tcc.specs.Score.{Score, agent_at, root_of}
use Rattle.tcc.specs.declared.Agent.{Agent}
use Rattle.tcc.specs.declared.Agent.TheVariants.{Skip, Abort, Tell, Parallel, When, Next, Unless, Call}

pub data Leads (sc : Score) : ℕ → ℕ → Type 0 where
  calls : {i p : ℕ} → agent_at sc i ≡ Call p → Leads sc i p
  by_first : {i a b p : ℕ} → agent_at sc i ≡ Parallel a b → Leads sc a p → Leads sc i p
  by_second : {i a b p : ℕ} → agent_at sc i ≡ Parallel a b → Leads sc b p → Leads sc i p
  by_body : {i t b p : ℕ} → agent_at sc i ≡ When t b → Leads sc b p → Leads sc i p

pub data Reaches (sc : Score) : ℕ → ℕ → Type 0 where
  one : {p q : ℕ} → Leads sc (root_of sc p) q → Reaches sc p q
  more : {p q r : ℕ} → Leads sc (root_of sc p) q → Reaches sc q r → Reaches sc p r

-- What is met on the way: an agent, or a procedure that was called.
pub data Met : Type 0 where
  agent : ℕ → Met
  procedure : ℕ → Met

abbrev pub same_met : Met → Met → Bool
same_met (agent i) (agent j) = eqb i j
same_met (agent i) (procedure q) = false
same_met (procedure p) (agent j) = false
same_met (procedure p) (procedure q) = eqb p q

abbrev pub from : {A : Type 0} → A → A → Rule A
from p c = record { premises = p ∷ []; conclusion = c }

abbrev pub ways : ℕ → Agent → List (Rule Met)
ways i Skip = []
ways i Abort = []
ways i (Tell t) = []
ways i (Parallel a b) = from (agent i) (agent a) ∷ from (agent i) (agent b) ∷ []
ways i (When t b) = from (agent i) (agent b) ∷ []
ways i (Next b) = []
ways i (Unless t b) = []
ways i (Call p) = from (agent i) (procedure p) ∷ []

-- from agent number n on
abbrev pub ways_from : ℕ → List Agent → List (Rule Met)
ways_from n [] = []
ways_from n (a ∷ l) = ways n a ++ ways_from (suc n) l

abbrev pub way_rules : Score → List (Rule Met)
way_rules sc = ways_from zero sc.agents ++ map (λ p. from (procedure p) (agent (root_of sc p))) (below (length sc.roots))

-- all that an agent leads to, calls followed
unfoldable pub met_from : Score → ℕ → List Met
met_from sc i = close same_met (way_rules sc) (agent i ∷ [])

unfoldable pub circular : Score → ℕ → Bool
circular sc p = any (same_met (procedure p)) (met_from sc (root_of sc p))
