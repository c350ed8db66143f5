-- The table's rows 4, 5 and 6 at one word: of the ports, an agent, a procedure, a rule.
--     at_word              at one word: 4 before 5 before 6
--     ports_verdict        word k, as the ports
--     agent_verdict        agent i: its form, its tokens, its bodies or halves, its procedure
--     root_verdict, rule_verdict  word k, as a procedure or a rule
use Rattle.std.specs.Prelude.{Bool, true, false, cond, ◌||◌, List, [], ◌∷◌, Option, Some, None, ℕ, ◌+◌, leb, ltb}
use Rattle.laws.specs.Sets.{any}
use Rattle.tcc.specs.Score.{tokens_of, parts_of, procedures_of}
use Rattle.tcc.specs.declared.Agent.{Agent}
use Rattle.words.specs.Word.{field}
use Rattle.format.specs.declared.Sizes.{Sizes}
use Rattle.format.specs.Format.{is_word, is_rule, rule_of}
use Rattle.check_verdicts.specs.Verdict.{Verdict, Accepted, Form, Token, Reference}

-- of word k: whether it has the form of its place, the tokens that it names, whether it refers out of range
abbrev pub at_word : Sizes → ℕ → Bool → List ℕ → Bool → Verdict
at_word h k formed tokens astray = cond formed (cond (any (λ t. leb h.tokens t) tokens) (Token k) (cond astray (Reference k) Accepted)) (Form k)

abbrev pub ports_verdict : Sizes → ℕ → ℕ → Verdict
ports_verdict h k w = at_word h k (is_word 11 16 w) (field w 0 8 ∷ field w 8 8 ∷ []) (ltb (field w 8 8) (field w 0 8))

-- agent i is word 2 + i
abbrev pub agent_verdict : Sizes → ℕ → Option Agent → Verdict
agent_verdict h i None = Form (2 + i)
agent_verdict h i (Some a) = at_word h (2 + i) true (tokens_of a) (any (λ b. leb i b) (parts_of a) || any (λ p. leb h.procedures p) (procedures_of a))

abbrev pub root_verdict : Sizes → ℕ → ℕ → Verdict
root_verdict h k w = at_word h k (is_word 3 10 w) [] (leb h.agents (field w 0 10))

abbrev pub rule_verdict : Sizes → ℕ → ℕ → Verdict
rule_verdict h k w = at_word h k (is_rule w) ((rule_of w).conclusion ∷ (rule_of w).premises) false
