-- The words of a decoded score: what `decode` (format) reads, written.
--     head_word, ports_word, agent_word, root_word, rule_word
--     score_words       head, ports, agents, procedures, rules
--     score_bytes       their bytes
--     RuleFormed        a rule that a word can say: no premise, or two
--     DecodesBack       the bytes of a lawful score of such rules are accepted, and stand for that score
--     ReadBack          an accepted score's bytes are those of the score that they stand for
use Rattle.std.specs.Prelude.{◌≡◌, ◌⊎◌, ℕ, ◌+◌, ◌-◌, ◌*◌, ◌^◌, ◌<◌, length}
use mathlib.Core.List.{List, [], ◌∷◌, ◌++◌, map, Memᴰ}
use Rattle.tcc.specs.Closure.{Rule}
use Rattle.tcc.specs.Score.{Score}
use Rattle.tcc.specs.Lawful.{Lawful}
use Rattle.tcc.specs.declared.Agent.{Agent}
use Rattle.tcc.specs.declared.Agent.TheVariants.{Skip, Abort, Tell, Parallel, When, Next, Unless, Call}
use Rattle.format.specs.Decode.{decode}
use Rattle.check_verdicts.specs.Verdict.{Accepted}
use Rattle.check_score.specs.Check.{verdict}
use Rattle.bits.specs.Bits.{bytes_of}

-- "T−1 in 7..0, N−1 in 17..8, P−1 in 23..18"
abbrev pub head_word : ℕ → ℕ → ℕ → ℕ
head_word tokens agents procedures = 1 * 2 ^ 28 + (tokens - 1) + (agents - 1) * 2 ^ 8 + (procedures - 1) * 2 ^ 18

abbrev pub ports_word : ℕ → ℕ → ℕ
ports_word lowest highest = 11 * 2 ^ 28 + lowest + highest * 2 ^ 8

abbrev pub agent_word : Agent → ℕ
agent_word Skip = 4 * 2 ^ 28
agent_word Abort = 4 * 2 ^ 28 + 1
agent_word (Tell t) = 5 * 2 ^ 28 + t
agent_word (Parallel a b) = 6 * 2 ^ 28 + a + b * 2 ^ 10
agent_word (When t b) = 7 * 2 ^ 28 + b + t * 2 ^ 10
agent_word (Next b) = 8 * 2 ^ 28 + b
agent_word (Unless t b) = 9 * 2 ^ 28 + b + t * 2 ^ 10
agent_word (Call p) = 10 * 2 ^ 28 + p

abbrev pub root_word : ℕ → ℕ
root_word i = 3 * 2 ^ 28 + i

-- no premise: a standing fact, bit 27; one premise stands in both fields
abbrev pub premise_bits : List ℕ → ℕ
premise_bits [] = 2 ^ 27
premise_bits (p ∷ []) = p * 2 ^ 8 + p * 2 ^ 16
premise_bits (p ∷ q ∷ more) = p * 2 ^ 8 + q * 2 ^ 16

abbrev pub rule_word : Rule ℕ → ℕ
rule_word r = 2 * 2 ^ 28 + r.conclusion + premise_bits r.premises

unfoldable pub score_words : Score → List ℕ
score_words sc =
    head_word sc.tokens (length sc.agents) (length sc.roots) ∷ ports_word sc.lowest_port sc.highest_port
    ∷ map agent_word sc.agents ++ map root_word sc.roots ++ map rule_word sc.rules

abbrev pub score_bytes : Score → List ℕ
score_bytes sc = bytes_of (score_words sc)

abbrev pub RuleFormed : Rule ℕ → Type 0
RuleFormed r = (r.premises ≡ []) ⊎ ((p : ℕ) × (q : ℕ) × (r.premises ≡ p ∷ q ∷ []))

abbrev pub DecodesBack : Type 0
DecodesBack =
    (sc : Score) → Lawful sc → ((r : Rule ℕ) → Memᴰ r sc.rules → RuleFormed r) →
    (verdict (score_bytes sc) ≡ Accepted) × (decode (score_bytes sc) ≡ sc)

abbrev pub ReadBack : Type 0
ReadBack = (s : List ℕ) → ((b : ℕ) → Memᴰ b s → b < 256) → verdict s ≡ Accepted → score_bytes (decode s) ≡ s
