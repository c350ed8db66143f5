-- The table's rows 1 to 6, over all bytes of a score.
--     length_verdict, head_verdict, count_verdict  rows 1, 2 and 3
--     word_verdict         word k, judged by its place
--     first_fault          the lowest word that meets 4, 5 or 6, from word k on
use Rattle.std.specs.Prelude.{cond, not, ◌||◌, List, [], ◌∷◌, ℕ, suc, ◌+◌, ◌-◌, ◌%◌, eqb, ltb}
use Rattle.tcc.specs.Limits.{most_rules}
use Rattle.format.specs.Limits.{most_bytes}
use Rattle.format.specs.declared.Sizes.{Sizes}
use Rattle.format.specs.Format.{is_word, decode_agent}
use Rattle.check_verdicts.specs.Verdict.{Verdict, Accepted, Length, Head, Count}
use Rattle.check_verdicts.specs.Verdicts.{or_else}
use Rattle.check_words.specs.WordFaults.{ports_verdict, root_verdict, rule_verdict, agent_verdict}

abbrev pub length_verdict : ℕ → Verdict
length_verdict n = cond (eqb n 0 || not (eqb (n % 4) 0) || ltb most_bytes n) Length Accepted

abbrev pub head_verdict : ℕ → Verdict
head_verdict w = cond (is_word 1 24 w) Accepted Head

abbrev pub count_verdict : Sizes → ℕ → Verdict
count_verdict h n = cond (ltb n (2 + h.agents + h.procedures) || ltb (2 + h.agents + h.procedures + most_rules) n) Count Accepted

unfoldable pub word_verdict : Sizes → ℕ → ℕ → Verdict
word_verdict h k w =
    cond (ltb k 2) (ports_verdict h k w)
    (cond (ltb k (2 + h.agents)) (agent_verdict h (k - 2) (decode_agent w))
    (cond (ltb k (2 + h.agents + h.procedures)) (root_verdict h k w)
    (rule_verdict h k w)))

unfoldable pub first_fault : Sizes → ℕ → List ℕ → Verdict
first_fault h k [] = Accepted
first_fault h k (w ∷ ws) = or_else (word_verdict h k w) (first_fault h (suc k) ws)
