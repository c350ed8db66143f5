-- The most bytes of a score: head, ports, and the words of as many agents, procedures and rules as it may have.
--     most_bytes
use Rattle.std.specs.Prelude.{ℕ, ◌+◌, ◌*◌}
use Rattle.tcc.specs.Limits.{most_agents, most_procedures, most_rules}

abbrev pub most_bytes : ℕ
most_bytes = 4 * (2 + most_agents + most_procedures + most_rules)
