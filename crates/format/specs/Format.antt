-- The words of a score.
--     clear          of the bits below the kind none is set but the lowest, named ones
--     is_word        a word of a kind, with no unnamed bit set
--     sizes_of       T, N and P, as a head says them
--     formed         an agent, if its word has no unnamed bit set
--     decode_agent   an agent word's agent; none where no agent has this form
--     agent_of       the agent; skip where there is none
--     is_fact        whether a rule word says a standing fact
--     is_rule        a rule word, with no unnamed bit set
--     rule_of        a rule word's rule
use Rattle.std.specs.Prelude.{Bool, cond, ◌&&◌, [], ◌∷◌, Option, Some, None, unwrap_or, ℕ, ◌+◌, ◌-◌, eqb}
use Rattle.tcc.specs.Closure.{Rule}
use Rattle.tcc.specs.declared.Agent.{Agent}
use Rattle.tcc.specs.declared.Agent.TheVariants.{Skip, Abort, Tell, Parallel, When, Next, Unless, Call}
use Rattle.words.specs.Word.{field, kind}
use Rattle.format.specs.declared.Sizes.{Sizes}

abbrev pub clear : ℕ → ℕ → Bool
clear named w = eqb (field w named (28 - named)) 0

unfoldable pub is_word : ℕ → ℕ → ℕ → Bool
is_word k named w = eqb (kind w) k && clear named w

-- "T−1 in 7..0, N−1 in 17..8, P−1 in 23..18"
abbrev pub sizes_of : ℕ → Sizes
sizes_of w = record { tokens = field w 0 8 + 1; agents = field w 8 10 + 1; procedures = field w 18 6 + 1 }

abbrev pub formed : ℕ → ℕ → Agent → Option Agent
formed w named a = cond (clear named w) (Some a) None

unfoldable pub decode_agent : ℕ → Option Agent
decode_agent w =
    cond (eqb (kind w) 4) (formed w 1 (cond (eqb (field w 0 1) 0) Skip Abort))
    (cond (eqb (kind w) 5) (formed w 8 (Tell (field w 0 8)))
    (cond (eqb (kind w) 6) (formed w 20 (Parallel (field w 0 10) (field w 10 10)))
    (cond (eqb (kind w) 7) (formed w 18 (When (field w 10 8) (field w 0 10)))
    (cond (eqb (kind w) 8) (formed w 10 (Next (field w 0 10)))
    (cond (eqb (kind w) 9) (formed w 18 (Unless (field w 10 8) (field w 0 10)))
    (cond (eqb (kind w) 10) (formed w 6 (Call (field w 0 6)))
    None))))))

abbrev pub agent_in : Option Agent → Agent
agent_in d = unwrap_or d Skip

abbrev pub agent_of : ℕ → Agent
agent_of w = agent_in (decode_agent w)

-- "a rule word with bit 27 set"
abbrev pub is_fact : ℕ → Bool
is_fact w = eqb (field w 27 1) 1

-- of a fact "its bits 23 to 8 are then zero", and bits 26 to 24 have no name
unfoldable pub is_rule : ℕ → Bool
is_rule w = cond (is_fact w) (eqb (kind w) 2 && eqb (field w 8 19) 0) (is_word 2 24 w)

-- of a fact "its conclusion holds with no premise"
abbrev pub rule_of : ℕ → Rule ℕ
rule_of w = record { premises = cond (is_fact w) [] (field w 8 8 ∷ field w 16 8 ∷ []); conclusion = field w 0 8 }
