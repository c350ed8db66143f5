-- The bytes of the score that an accepted score stands for are its own.
--     head_passed, head_formed, ports_formed     its head and its ports have the form of their places
--     head_back, agent_back, root_back, rule_back     each word is the word of what it says
--     words_again       so the words of the score that they stand for are those words
--     read-back         and the bytes are those bytes
use mathlib.Core.Path.{◌≡◌, refl, sym, ap, ap₂, ◌∙◌}
use mathlib.Core.Bool.{Bool, true, false, cond}
use mathlib.Core.List.{List, [], ◌∷◌, ◌++◌}
use Prim.Native.Nat.{ℕ, ◌+◌, ◌-◌, ◌^◌, ◌<◌, ◌≤◌}
use native.Mathlib.Omega.{arith}
use lib.Dec.{leb, ltb}
use lib.ListN.{length, take, drop}
use Rattle.laws.proofs.Sets.{Within}
use Rattle.words.specs.Word.{field, words, word_at}
use Rattle.format.specs.Format.{is_word, decode_agent, agent_of, rule_of}
use Rattle.format.specs.Decode.{sizes, decode}
use Rattle.format.proofs.Decode.{decode_agents, decode_roots}
use Rattle.check_verdicts.specs.Verdict.{Accepted, Head}
use Rattle.check_verdicts.specs.Verdicts.{or_else}
use Rattle.check_verdicts.proofs.Verdicts.{refused, both_accepted}
use Rattle.check_faults.specs.Faults.{length_verdict, head_verdict, count_verdict, word_verdict, first_fault}
use Rattle.check_faults.specs.Faultless.{Faultless}
use Rattle.check_faults.proofs.Accepted.{word_accepted, rules_formed}
use Rattle.check_circles.specs.Circles.{circle_from}
use Rattle.check_score.specs.Check.{verdict}
use Rattle.check_score.proofs.Lawful.{accepted_words, accepted_faultless}
use Rattle.bits.specs.Bits.{bytes_of}
use Rattle.encoding.specs.Encode.{head_word, agent_word, root_word, rule_word, score_words, ReadBack}
use Rattle.encoding.proofs.ReadWords.{head_again, ports_again, agent_again, root_again, rule_again}
use Rattle.encoding.proofs.Bytes.{words_small, bytes_words}
use Rattle.encoding.proofs.Lists.{on_rest, on_part, place_member, map_back, parts_whole}
use Rattle.encoding.proofs.WordVerdicts.{agent_place_lem, root_place, at_formed, agent_formed}

head_passed : (b : Bool) → cond b Accepted Head ≡ Accepted → b ≡ true
head_passed true e = refl
head_passed false e = refused Head (λ z. omega arith) e

pub ports_formed : (s : List ℕ) → verdict s ≡ Accepted → is_word 11 16 (word_at s 1) ≡ true
unfolding word_verdict
ports_formed s e =
    let w = word_at s 1 in
    let fine = accepted_faultless s e in
    at_formed (sizes s) 1 (is_word 11 16 w) (field w 0 8 ∷ field w 8 8 ∷ []) (ltb (field w 8 8) (field w 0 8)) (word_accepted s fine 1 (omega (arith, fine.enough)) (omega arith))

module _ (s : List ℕ) (small : Within (λ w. w < 2 ^ 32) (words s)) (e : verdict s ≡ Accepted) where
  fine : Faultless s
  fine = accepted_faultless s e

  word_small : (k : ℕ) → k < length (words s) → word_at s k < 2 ^ 32
  word_small k lt = small (word_at s k) (place_member (words s) k 0 lt)

  head_formed : is_word 1 24 (word_at s 0) ≡ true
  unfolding verdict
  head_formed =
      let later = or_else (count_verdict (sizes s) (length (words s))) (or_else (first_fault (sizes s) 1 (drop 1 (words s))) (circle_from (decode s) 0 (length (decode s).roots))) in
      head_passed (is_word 1 24 (word_at s 0)) (both_accepted (head_verdict (word_at s 0)) later (both_accepted (length_verdict (length s)) (or_else (head_verdict (word_at s 0)) later) e).1).0

  agent_back : (k : ℕ) → 2 ≤ k → k < 2 + (sizes s).agents → k < length (words s) → agent_word (agent_of (word_at s k)) ≡ word_at s k
  agent_back k from to lt =
      let w = word_at s k in
      agent_again w (word_small k lt) (agent_of w) (agent_formed (sizes s) (k - 2) (decode_agent w) (sym (agent_place_lem (sizes s) k w from to) ∙ word_accepted s fine k lt (omega arith)))

  root_back : (k : ℕ) → 2 + (sizes s).agents ≤ k → k < 2 + (sizes s).agents + (sizes s).procedures → k < length (words s) → root_word (field (word_at s k) 0 10) ≡ word_at s k
  root_back k from to lt =
      let w = word_at s k in
      root_again w (word_small k lt) (at_formed (sizes s) k (is_word 3 10 w) [] (leb (sizes s).agents (field w 0 10)) (sym (root_place (sizes s) k w from to) ∙ word_accepted s fine k lt (omega arith)))

  rule_back : (k : ℕ) → 2 + (sizes s).agents + (sizes s).procedures ≤ k → k < length (words s) → rule_word (rule_of (word_at s k)) ≡ word_at s k
  rule_back k from lt = rule_again (word_at s k) (word_small k lt) (rules_formed s fine k from lt)

  head_back : head_word (decode s).tokens (length (decode s).agents) (length (decode s).roots) ≡ word_at s 0
  unfolding decode
  head_back =
      ap₂ (head_word (sizes s).tokens) (decode_agents s (omega (arith, fine.enough))) (decode_roots s fine.enough)
      ∙ head_again (word_at s 0) (word_small 0 (omega (arith, fine.enough))) head_formed

  words_again : score_words (decode s) ≡ words s
  unfolding score_words decode
  words_again =
      let ws = words s in
      let n = (sizes s).agents in
      let p = (sizes s).procedures in
      let ports = ports_again (word_at s 1) (word_small 1 (omega (arith, fine.enough))) (ports_formed s e) in
      let agents = map_back agent_of agent_word (take n (drop 2 ws)) (on_part (λ w. agent_word (agent_of w) ≡ w) ws 2 n 0 agent_back) in
      let roots = map_back (λ w. field w 0 10) root_word (take p (drop (2 + n) ws)) (on_part (λ w. root_word (field w 0 10) ≡ w) ws (2 + n) p 0 root_back) in
      let rules = map_back rule_of rule_word (drop (2 + n + p) ws) (on_rest (λ w. rule_word (rule_of w) ≡ w) ws (2 + n + p) 0 rule_back) in
      (λ i. head_back i ∷ ports i ∷ agents i ++ roots i ++ rules i)
      ∙ parts_whole ws n p 0 (omega (arith, fine.enough))

pub read_back : ReadBack
read_back s bytes e = ap bytes_of (words_again s (words_small s bytes) e) ∙ bytes_words s bytes (omega (arith, accepted_words s e))
