-- A score with a standing fact more, as it is decoded.
--     with_rules         a score with other rules
--     OneMore            two scores that are the same but for a fact among the rules of the second
--     part_front         words that lie within the front of a list are the front's
--     score_of, rules_in  the score that words stand for, where all but rules is in its front; the rules in the front
--     word_front, words_decoded     bytes whose words begin with that front stand for such a score
--     adds_fact          so bytes with a fact word more among the rules stand for a score with the fact more
use mathlib.Core.Path.{◌≡◌, sym, ap, ◌∙◌}
use mathlib.Core.List.{List, ◌∷◌, ◌++◌, map, map-append}
use Prim.Native.Nat.{ℕ, ◌+◌, ◌<◌, ◌≤◌}
use native.Mathlib.Omega.{arith}
use lib.ListN.{length, get_or, take, drop, length-drop, get_or-append}
use lib.Seq.{take-append-le, drop-append-le}
use Rattle.tcc.specs.Closure.{Rule}
use Rattle.tcc.specs.Score.{Score}
use Rattle.words.specs.Word.{field, words, word_at}
use Rattle.format.specs.declared.Sizes.{Sizes}
use Rattle.format.specs.Format.{sizes_of, agent_of, rule_of}
use Rattle.format.specs.Decode.{sizes, decode}
use Rattle.format.proofs.Decode.{sizes_few}
use Rattle.claims_facts.specs.FactForTold.{fact_word, AddsFact}
use Rattle.claims_facts.proofs.Word.{fact, fact_rule}

abbrev pub with_rules : Score → List (Rule ℕ) → Score
with_rules sc rules =
    record { tokens = sc.tokens; lowest_port = sc.lowest_port; highest_port = sc.highest_port; agents = sc.agents; roots = sc.roots; rules = rules }

pub record OneMore (t : ℕ) (sc sc' : Score) : Type 0 where
  pub before : List (Rule ℕ)
  pub rest : List (Rule ℕ)
  pub without : sc ≡ with_rules sc (before ++ rest)
  pub with_fact : sc' ≡ with_rules sc (before ++ fact t ∷ rest)

part_front : (n k : ℕ) (front more : List ℕ) → k + n ≤ length front → take n (drop k (front ++ more)) ≡ take n (drop k front)
part_front n k front more h = ap (take n) (drop-append-le k front more (omega arith)) ∙ take-append-le n (drop k front) more (omega (arith, length-drop k front))

abbrev sizes_in : List ℕ → Sizes
sizes_in front = sizes_of (get_or front 0 0)

abbrev rules_from : List ℕ → ℕ
rules_from front = 2 + (sizes_in front).agents + (sizes_in front).procedures

abbrev score_of : List ℕ → List (Rule ℕ) → Score
score_of front rules =
    record {
      tokens = (sizes_in front).tokens;
      lowest_port = field (get_or front 1 0) 0 8;
      highest_port = field (get_or front 1 0) 8 8;
      agents = map agent_of (take (sizes_in front).agents (drop 2 front));
      roots = map (λ w. field w 0 10) (take (sizes_in front).procedures (drop (2 + (sizes_in front).agents) front));
      rules = rules;
    }

abbrev rules_in : List ℕ → List (Rule ℕ)
rules_in front = map rule_of (drop (rules_from front) front)

module _ (s front more : List ℕ) (are : words s ≡ front ++ more) where
  word_front : (i : ℕ) → i < length front → word_at s i ≡ get_or front i 0
  word_front i h = ap (λ ws. get_or ws i 0) are ∙ get_or-append front more 0 i h

  words_decoded : rules_from front ≤ length front → decode s ≡ score_of front (rules_in front ++ map rule_of more)
  unfolding decode
  words_decoded h =
      let head = word_front 0 (omega arith) in
      let ports = word_front 1 (omega arith) in
      let n = sizes_in front in
      let agents : take (sizes s).agents (drop 2 (words s)) ≡ take n.agents (drop 2 front) =
      (λ i. take (sizes_of (head i)).agents (drop 2 (are i))) ∙ part_front n.agents 2 front more (omega arith) in
      let roots : take (sizes s).procedures (drop (2 + (sizes s).agents) (words s)) ≡ take n.procedures (drop (2 + n.agents) front) =
      (λ i. take (sizes_of (head i)).procedures (drop (2 + (sizes_of (head i)).agents) (are i))) ∙ part_front n.procedures (2 + n.agents) front more (omega arith) in
      let rules : drop (2 + (sizes s).agents + (sizes s).procedures) (words s) ≡ drop (rules_from front) front ++ more =
      (λ i. drop (2 + (sizes_of (head i)).agents + (sizes_of (head i)).procedures) (are i)) ∙ drop-append-le (rules_from front) front more h in
      λ i. record {
        tokens = (sizes_of (head i)).tokens;
        lowest_port = field (ports i) 0 8;
        highest_port = field (ports i) 8 8;
        agents = map agent_of (agents i);
        roots = map (λ w. field w 0 10) (roots i);
        rules = (ap (map rule_of) rules ∙ map-append rule_of (drop (rules_from front) front) more) i;
      }

module _ {t : ℕ} {score score' : List ℕ} (x : AddsFact t score score') where
  rules_in_front : rules_from x.front ≤ length x.front
  rules_in_front =
      let e = word_front score x.front x.rest x.without 0 (omega (arith, x.among_rules)) in
      rw (← e) x.among_rules

  pub adds_fact : OneMore t (decode score) (decode score')
  adds_fact =
      let front = x.front in
      let e = words_decoded score front x.rest x.without rules_in_front in
      let e' = words_decoded score' front (fact_word t ∷ x.rest) x.with_fact rules_in_front in
      let r = fact_rule t (omega (arith, x.known, (sizes_few score).0)) in
      record {
        before = rules_in front;
        rest = map rule_of x.rest;
        without = e ∙ ap (λ sc. with_rules sc (rules_in front ++ map rule_of x.rest)) (sym e);
        with_fact = e' ∙ ap (λ f. score_of front (rules_in front ++ f ∷ map rule_of x.rest)) r ∙ ap (λ sc. with_rules sc (rules_in front ++ fact t ∷ map rule_of x.rest)) (sym e);
      }
