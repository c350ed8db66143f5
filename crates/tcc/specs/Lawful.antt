-- The facts of acceptance.
--     Lawful          what every score has that the score check accepts
--     AgentsBelow     every agent of a list is one of the score's
use mathlib.Core.List.{List, Memᴰ}
use Rattle.std.specs.Prelude.{ℕ, ◌<◌, ◌≤◌, length}
use Rattle.tcc.specs.Limits.{most_tokens, most_agents, most_procedures, most_rules}
use Rattle.tcc.specs.Closure.{Rule}
use Rattle.tcc.specs.Score.{Score, agent_at, root_of, tokens_of, parts_of, procedures_of}
use Rattle.tcc.specs.Unguarded.{Reaches}

pub record Lawful (sc : Score) : Type 0 where
  pub some_tokens : 1 ≤ sc.tokens
  pub tokens_at_most : sc.tokens ≤ most_tokens
  pub some_agents : 1 ≤ length sc.agents
  pub agents_at_most : length sc.agents ≤ most_agents
  pub some_roots : 1 ≤ length sc.roots
  pub roots_at_most : length sc.roots ≤ most_procedures
  pub rules_at_most : length sc.rules ≤ most_rules
  pub ports_ordered : sc.lowest_port ≤ sc.highest_port
  pub ports_known : sc.highest_port < sc.tokens
  pub tokens_known : (i t : ℕ) → Memᴰ t (tokens_of (agent_at sc i)) → t < sc.tokens
  pub parts_lower : (i b : ℕ) → Memᴰ b (parts_of (agent_at sc i)) → b < i
  pub procedures_known : (i p : ℕ) → Memᴰ p (procedures_of (agent_at sc i)) → p < length sc.roots
  pub roots_known : (p : ℕ) → p < length sc.roots → root_of sc p < length sc.agents
  pub conclusions_known : (r : Rule ℕ) → Memᴰ r sc.rules → r.conclusion < sc.tokens
  pub premises_known : (r : Rule ℕ) (t : ℕ) → Memᴰ r sc.rules → Memᴰ t r.premises → t < sc.tokens
  pub no_circle : (p : ℕ) → p < length sc.roots → Reaches sc p p → ⊥

abbrev pub AgentsBelow : Score → List ℕ → Type 0
AgentsBelow sc agents = (i : ℕ) → Memᴰ i agents → i < length sc.agents
