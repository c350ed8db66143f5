-- "Weight: next 0; skip, abort, tell, unless 1; when 1 + body; parallel 1 + both halves; call 1 + the root called;
-- each input token 1."
--     weighs         the right-hand sides, for weights w of the agents
--     IsWeight       w meets the equations at each agent of the score
--     weight         the weights, computed
--     total          summed over the copies of agents and the input tokens that an order starts with
use Rattle.std.specs.Prelude.{◌≡◌, List, [], ◌∷◌, ℕ, zero, suc, ◌+◌, ◌*◌, ◌<◌, length}
use Rattle.tcc.specs.Score.{Score, agent_at, root_of}
use Rattle.tcc.specs.declared.Agent.{Agent}
use Rattle.tcc.specs.declared.Agent.TheVariants.{Skip, Abort, Tell, Parallel, When, Next, Unless, Call}

abbrev pub weighs : Score → (ℕ → ℕ) → Agent → ℕ
weighs sc w Skip = 1
weighs sc w Abort = 1
weighs sc w (Tell t) = 1
weighs sc w (Parallel a b) = 1 + w a + w b
weighs sc w (When t b) = 1 + w b
weighs sc w (Next b) = 0
weighs sc w (Unless t b) = 1
weighs sc w (Call p) = 1 + w (root_of sc p)

abbrev pub IsWeight : Score → (ℕ → ℕ) → Type 0
IsWeight sc w = (i : ℕ) → i < length sc.agents → w i ≡ weighs sc w (agent_at sc i)

-- the equations unfolded n deep
abbrev pub weight_within : Score → ℕ → ℕ → ℕ
weight_within sc zero i = 0
weight_within sc (suc n) i = weighs sc (weight_within sc n) (agent_at sc i)

-- of an accepted score no chain of bodies and calls is longer than its agents for each procedure and once more
abbrev pub weight : Score → ℕ → ℕ
weight sc i = weight_within sc (suc (length sc.roots) * length sc.agents) i

abbrev pub total : (ℕ → ℕ) → List ℕ → List ℕ → ℕ
total w [] inputs = length inputs
total w (i ∷ agents) inputs = w i + total w agents inputs
