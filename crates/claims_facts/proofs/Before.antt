-- Words, the score check and decoded scores as they were before there were facts.
--     word_before        a word with bit 27 clear has the rule and the verdict of before
--     judged_before      so has any word that is no rule word with bit 27 set, of its verdict
--     faults_before      so the lowest fault of words without a fact is that of before
--     circles_before     unguarded calls rest on no rule
--     verdict_before_lem  so the verdict on a score without a fact is that of before
--     score_before       and what it stands for, if it is accepted
use mathlib.Core.Path.{◌≡◌, refl, sym, ap, ap₂, ◌∙◌}
use mathlib.Core.Bool.{Bool, true, false, cond}
use mathlib.Core.List.{List, [], ◌∷◌}
use Prim.Native.Nat.{ℕ, zero, suc, ◌+◌, ◌-◌, ◌<◌, ◌≤◌}
use native.Mathlib.Decide.{ℕ_discrete}
use native.Mathlib.Omega.{arith}
use borrow.Author.Tests.{ltb-false}
use lib.Dec.{ltb}
use lib.ListN.{length, get_or, drop, length-drop}
use lib.Seq.{get_or-drop}
use Rattle.laws.proofs.Lists.{map_entries}
use Rattle.tcc.specs.Unguarded.{met_from, circular}
use Rattle.words.specs.Word.{field, kind, words, word_at}
use Rattle.format.specs.declared.Sizes.{Sizes}
use Rattle.format.specs.Format.{is_word, decode_agent, is_fact, is_rule, rule_of}
use Rattle.format.specs.Decode.{sizes, decode}
use Rattle.format.proofs.Rule.{word_kind, rule_plain, rule_kind, premises_plain}
use Rattle.check_verdicts.specs.Verdicts.{verdict_number, or_else}
use Rattle.check_verdicts.specs.Verdict.{Circle}
use Rattle.check_verdicts.proofs.Verdicts.{accepted_only}
use Rattle.check_words.specs.WordFaults.{ports_verdict, agent_verdict, root_verdict, rule_verdict}
use Rattle.check_words.proofs.AtWord.{form_first}
use Rattle.check_faults.specs.Faults.{length_verdict, head_verdict, count_verdict, word_verdict, first_fault}
use Rattle.check_faults.proofs.Accepted.{rules_formed}
use Rattle.check_circles.specs.Circles.{circle_from}
use Rattle.check_score.specs.Check.{verdict}
use Rattle.check_score.proofs.Lawful.{accepted_faultless}
use Rattle.claims_facts.specs.WithoutFacts.{rule_before, rule_verdict_before, word_verdict_before, first_fault_before, decode_before, verdict_before, NoFact, WordBefore}

module _ (w : ℕ) where
  pub word_before : field w 27 1 ≡ 0 → WordBefore w
  word_before e = record {
    rule = ap (λ l. record { premises = l; conclusion = field w 0 8 }) (premises_plain w plain);
    verdict = λ h k. rw (rule_plain w plain, plain);
  }
    where
      plain : is_fact w ≡ false
      plain = rw e

  refuted : (b : Bool) → (b ≡ true → ⊥) → b ≡ false
  refuted true n = absurd (n refl)
  refuted false n = refl

  judged_before : (h : Sizes) (k : ℕ) → (kind w ≡ 2 → field w 27 1 ≡ 0) → rule_verdict h k w ≡ rule_verdict_before h k w
  judged_before h k no-fact = go (ℕ_discrete (kind w) 2)
    where
      go : Dec (kind w ≡ 2) → rule_verdict h k w ≡ rule_verdict_before h k w
      go (yes e) = (word_before (no-fact e)).verdict h k
      go (no n) =
          sym (form_first h k ((rule_of w).conclusion ∷ (rule_of w).premises) false (refuted (is_rule w) (λ e. n (rule_kind w e))))
          ∙ form_first h k (field w 0 8 ∷ field w 8 8 ∷ field w 16 8 ∷ []) false (refuted (is_word 2 24 w) (λ e. n (word_kind 2 24 w e)))

placed_before : (h : Sizes) (k w : ℕ) → (2 + h.agents + h.procedures ≤ k → kind w ≡ 2 → field w 27 1 ≡ 0) → word_verdict h k w ≡ word_verdict_before h k w
unfolding word_verdict
placed_before h k w no-fact = go (ltb k (2 + h.agents + h.procedures)) refl
  where
    go : (b : Bool) → ltb k (2 + h.agents + h.procedures) ≡ b → word_verdict h k w ≡ word_verdict_before h k w
    go true e = rw e
    go false e = ap (λ v. cond (ltb k 2) (ports_verdict h k w) (cond (ltb k (2 + h.agents)) (agent_verdict h (k - 2) (decode_agent w)) (cond (ltb k (2 + h.agents + h.procedures)) (root_verdict h k w) v))) (judged_before w h k (no-fact (ltb-false k (2 + h.agents + h.procedures) e)))

faults_before : (h : Sizes) (k : ℕ) (ws : List ℕ) → ((i : ℕ) → i < length ws → 2 + h.agents + h.procedures ≤ k + i → kind (get_or ws i 0) ≡ 2 → field (get_or ws i 0) 27 1 ≡ 0) →
    first_fault h k ws ≡ first_fault_before h k ws
unfolding first_fault
faults_before h k [] no-fact = refl
faults_before h k (w ∷ ws) no-fact = ap₂ or_else
    (placed_before h k w (λ le. no-fact zero (omega arith) (omega arith)))
    (faults_before h (suc k) ws (λ i lt le. no-fact (suc i) (omega arith) (omega arith)))

circles_before : (s : List ℕ) (p left : ℕ) → circle_from (decode s) p left ≡ circle_from (decode_before s) p left
unfolding decode circle_from circular met_from
circles_before s p zero = refl
circles_before s p (suc left) = ap (cond (circular (decode s) p) (Circle p)) (circles_before s (suc p) left)

module _ (s : List ℕ) (no-fact : NoFact s) where
  pub verdict_before_lem : verdict s ≡ verdict_before s
  unfolding verdict decode
  verdict_before_lem =
      ap₂ (λ faults circles. or_else (length_verdict (length s)) (or_else (head_verdict (word_at s 0)) (or_else (count_verdict (sizes s) (length (words s))) (or_else faults circles))))
      (faults_before (sizes s) 1 (drop 1 (words s)) (λ i lt le. rw (get_or-drop 1 (words s) i 0) (no-fact (1 + i) le (omega (arith, length-drop 1 (words s))))))
      (circles_before s 0 (length (decode s).roots))

  pub score_before : verdict_number (verdict s) ≡ 0 → decode s ≡ decode_before s
  unfolding decode
  score_before accepted =
      let start = 2 + (sizes s).agents + (sizes s).procedures in
      ap (λ l. record { tokens = (decode s).tokens; lowest_port = (decode s).lowest_port; highest_port = (decode s).highest_port; agents = (decode s).agents; roots = (decode s).roots; rules = l })
      (map_entries rule_of rule_before (drop start (words s)) 0 (λ i lt. rw (get_or-drop start (words s) i 0) (rule_here (start + i) (omega arith) (omega (arith, length-drop start (words s))))))
    where
      rule_here : (k : ℕ) → 2 + (sizes s).agents + (sizes s).procedures ≤ k → k < length (words s) → rule_of (word_at s k) ≡ rule_before (word_at s k)
      rule_here k le lt =
          let faultless = accepted_faultless s (accepted_only (verdict s) accepted) in
          (word_before (word_at s k) (no-fact k le lt (rule_kind (word_at s k) (rules_formed s faultless k le lt)))).rule
