-- An instant as a function that computes, over sets of agents and tokens: the least set of live agents and held tokens
-- such that the instant's agents are live, its inputs are held, and each live agent has had its effect.
--     Answer           status, store, distinct agents reduced, agents awake next
--     count            the number of distinct agents reduced; 0 where the instant aborts
--     instant          one instant of a running score
--     ports            the tokens that may go to the drives
--     output           those that go, by an instant's status and store
--     State            the state of a score between instants
--     start_state      the state before the first
--     answer           the answer in any state
--     after            the state after an answer
--     state_after      the state after a list of instants, each given by its input tokens
--     answers          the answers along a list of instants
use Rattle.std.specs.Prelude.{Bool, true, false, cond, ◌&&◌, List, [], ◌∷◌, ◌++◌, map, ℕ, zero, suc, ◌+◌, ◌-◌, length, eqb}
use Rattle.laws.specs.Sets.{below, keep, any, has}
use Rattle.tcc.specs.Closure.{Rule, close}
use Rattle.tcc.specs.Score.{Score, agent_at, root_of}
use Rattle.tcc.specs.Store.{store_rules}
use Rattle.tcc.specs.declared.Agent.{Agent}
use Rattle.tcc.specs.declared.Agent.TheVariants.{Skip, Abort, Tell, Parallel, When, Next, Unless, Call}

pub data Fact : Type 0 where
  live : ℕ → Fact
  held : ℕ → Fact

abbrev pub same_fact : Fact → Fact → Bool
same_fact (live i) (live j) = eqb i j
same_fact (live i) (held u) = false
same_fact (held t) (live j) = false
same_fact (held t) (held u) = eqb t u

-- what agent i does once it is live
abbrev pub effects : Score → ℕ → Agent → List (Rule Fact)
effects sc i Skip = []
effects sc i Abort = []
effects sc i (Tell t) = record { premises = live i ∷ []; conclusion = held t } ∷ []
effects sc i (Parallel a b) = record { premises = live i ∷ []; conclusion = live a } ∷ record { premises = live i ∷ []; conclusion = live b } ∷ []
effects sc i (When t b) = record { premises = live i ∷ held t ∷ []; conclusion = live b } ∷ []
effects sc i (Next b) = []
effects sc i (Unless t b) = []
effects sc i (Call p) = record { premises = live i ∷ []; conclusion = live (root_of sc p) } ∷ []

-- of the agents from number n on
abbrev pub effects_from : Score → ℕ → List Agent → List (Rule Fact)
effects_from sc n [] = []
effects_from sc n (a ∷ l) = effects sc n a ++ effects_from sc (suc n) l

abbrev pub held_rule : Rule ℕ → Rule Fact
held_rule r = record { premises = map held r.premises; conclusion = held r.conclusion }

abbrev pub instant_rules : Score → List (Rule Fact)
instant_rules sc = effects_from sc zero sc.agents ++ map held_rule (store_rules sc)

-- the least fixed point
unfoldable pub reached : Score → List ℕ → List ℕ → List Fact
reached sc agents inputs = close same_fact (instant_rules sc) (map live agents ++ map held inputs)

abbrev pub live_in : List Fact → List ℕ
live_in [] = []
live_in (live i ∷ l) = i ∷ live_in l
live_in (held t ∷ l) = live_in l

abbrev pub held_in : List Fact → List ℕ
held_in [] = []
held_in (live i ∷ l) = held_in l
held_in (held t ∷ l) = t ∷ held_in l

abbrev pub is_abort : Agent → Bool
is_abort Skip = false
is_abort Abort = true
is_abort (Tell t) = false
is_abort (Parallel a b) = false
is_abort (When t b) = false
is_abort (Next b) = false
is_abort (Unless t b) = false
is_abort (Call p) = false

-- whether a live agent has been reduced once the store is as it is at the end
abbrev pub reducible : List ℕ → Agent → Bool
reducible store Skip = true
reducible store Abort = true
reducible store (Tell t) = true
reducible store (Parallel a b) = true
reducible store (When t b) = has t store
reducible store (Next b) = false
reducible store (Unless t b) = has t store
reducible store (Call p) = true

-- the body that a live agent leaves awake
abbrev pub leaves : List ℕ → Agent → List ℕ
leaves store Skip = []
leaves store Abort = []
leaves store (Tell t) = []
leaves store (Parallel a b) = []
leaves store (When t b) = []
leaves store (Next b) = b ∷ []
leaves store (Unless t b) = cond (has t store) [] (b ∷ [])
leaves store (Call p) = []

abbrev pub left_awake : Score → List ℕ → List ℕ → List ℕ
left_awake sc store [] = []
left_awake sc store (i ∷ lives) = leaves store (agent_at sc i) ++ left_awake sc store lives

-- the distinct agents of the score that are reduced once the store is as it is at the end
abbrev pub reduced_of : Score → List ℕ → List ℕ → List ℕ
reduced_of sc store lives = keep (λ i. has i lives && reducible store (agent_at sc i)) (below (length sc.agents))

pub record Answer : Type 0 where
  pub status : ℕ
  pub store : List ℕ
  pub reduced : List ℕ
  pub awake : List ℕ

-- "how many distinct agents of the score were reduced by the end of the instant"
abbrev pub count : Answer → ℕ
count a = length a.reduced

abbrev pub aborted_answer : Answer
aborted_answer = record { status = 2; store = []; reduced = []; awake = [] }

abbrev pub quiet_answer : Score → List ℕ → List ℕ → Answer
quiet_answer sc store lives = record { status = cond (has 0 store) 1 0; store = store; reduced = reduced_of sc store lives; awake = left_awake sc store lives }

abbrev pub answer_of : Score → List Fact → Answer
answer_of sc facts = cond (any (λ i. is_abort (agent_at sc i)) (live_in facts)) aborted_answer (quiet_answer sc (held_in facts) (live_in facts))

unfoldable pub instant : Score → List ℕ → List ℕ → Answer
instant sc agents inputs = answer_of sc (reached sc agents inputs)

-- "from lowest to highest port", rising
abbrev pub ports : Score → List ℕ
ports sc = map (λ k. sc.lowest_port + k) (below (suc sc.highest_port - sc.lowest_port))

-- "Output: the store's tokens from lowest to highest port"; "The output of a status 1 instant is empty"
unfoldable pub output : Score → ℕ → List ℕ → List ℕ
output sc status store = cond (eqb status 1) [] (keep (λ t. has t store) (ports sc))

pub data State : Type 0 where
  running : List ℕ → State
  aborted : State

-- "The start state has the root of procedure 0."
abbrev pub start_state : Score → State
start_state sc = running (root_of sc 0 ∷ [])

unfoldable pub answer : Score → State → List ℕ → Answer
answer sc (running agents) inputs = instant sc agents inputs
answer sc aborted inputs = aborted_answer

abbrev pub after : Answer → State
after a = cond (eqb a.status 2) aborted (running a.awake)

unfoldable pub state_after : Score → State → List (List ℕ) → State
state_after sc s [] = s
state_after sc s (inputs ∷ more) = state_after sc (after (answer sc s inputs)) more

unfoldable pub answers : Score → State → List (List ℕ) → List Answer
answers sc s [] = []
answers sc s (inputs ∷ more) = answer sc s inputs ∷ answers sc (after (answer sc s inputs)) more
