-- The size limits of a score.
--     most_tokens, most_agents, most_procedures, most_rules  T, N, P, and how many rules there are at most
use Rattle.std.specs.Prelude.{ℕ}

abbrev pub most_tokens : ℕ
most_tokens = 256

abbrev pub most_agents : ℕ
most_agents = 1024

abbrev pub most_procedures : ℕ
most_procedures = 64

abbrev pub most_rules : ℕ
most_rules = 256
