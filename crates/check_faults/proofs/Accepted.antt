-- The facts of acceptance: what holds of a score none of whose words meets 4, 5 or 6.
--     length_accepted, count_accepted    of a score that does not meet 1, or 3
--     word_accepted         each word is as its place asks
--     tokens_known, parts_lower, procedures_known, roots_known, ports_known, ports_ordered, rules_formed, rules_known
--                           so the decoded score refers to nothing that it does not have
use mathlib.Core.Path.{◌≡◌, refl, sym, subst, subst⁻¹, ◌∙◌}
use mathlib.Core.Bool.{Bool, true, false, cond, not, ◌||◌}
use mathlib.Core.List.{List, [], ◌∷◌, Memᴰ}
use Prim.Native.Nat.{ℕ, zero, suc, ◌+◌, ◌-◌, ◌%◌, ◌<◌, ◌≤◌}
use native.Mathlib.Decide.{dec_lt}
use native.Mathlib.Nat.{not-suc-le-zero, le_of_suc-le-suc, add-zero, add-suc, suc-add}
use native.Mathlib.Omega.{arith}
use borrow.Author.Tests.{lt-ltb, le-ltb, ltb-false, leb-false, eqb-true, eqb-false, not-false}
use lib.Dec.{eqb, leb, ltb}
use lib.ListN.{length, get_or, drop, length-drop, get_or-eq_default}
use lib.Seq.{get_or-drop}
use Rattle.std.proofs.Common.{Option, Some, None}
use Rattle.laws.specs.Sets.{any}
use Rattle.laws.proofs.Booleans.{neither}
use Rattle.laws.proofs.Sets.{none_above}
use Rattle.tcc.specs.Score.{agent_at, root_of, tokens_of, parts_of, procedures_of}
use Rattle.tcc.specs.declared.Agent.{Agent}
use Rattle.tcc.specs.declared.Agent.TheVariants.{Skip}
use Rattle.words.specs.Word.{field, words, word_at}
use Rattle.format.specs.declared.Sizes.{Sizes}
use Rattle.format.specs.Format.{is_word, agent_in, decode_agent, is_rule, rule_of}
use Rattle.format.specs.Decode.{sizes, decode}
use Rattle.format.proofs.Decode.{decode_agent_lem, decode_root, decode_agents}
use Rattle.check_verdicts.specs.Verdict.{Verdict, Accepted, Length, Count, Form, Token, Reference}
use Rattle.check_verdicts.specs.Verdicts.{verdict_number}
use Rattle.check_verdicts.proofs.Verdicts.{refused, both_accepted}
use Rattle.check_words.specs.WordFaults.{at_word, ports_verdict, root_verdict, rule_verdict, agent_verdict}
use Rattle.check_faults.specs.Faults.{length_verdict, count_verdict, word_verdict, first_fault}
use Rattle.check_faults.specs.Faultless.{Faultless}

listed_accepted : (h : Sizes) (k : ℕ) (ws : List ℕ) → first_fault h k ws ≡ Accepted → (j : ℕ) → j < length ws → word_verdict h (k + j) (get_or ws j 0) ≡ Accepted
unfolding first_fault
listed_accepted h k [] e j lt = absurd (not-suc-le-zero lt)
listed_accepted h k (w ∷ ws) e zero lt = rw add-zero (both_accepted (word_verdict h k w) (first_fault h (suc k) ws) e).0
listed_accepted h k (w ∷ ws) e (suc j) lt =
    let r : word_verdict h (suc k + j) (get_or ws j 0) ≡ Accepted = listed_accepted h (suc k) ws (both_accepted (word_verdict h k w) (first_fault h (suc k) ws) e).1 j (le_of_suc-le-suc lt) in
    subst (λ n. word_verdict h n (get_or ws j 0) ≡ Accepted) (suc-add k j ∙ sym (add-suc k j)) r

pub word_accepted : (s : List ℕ) → Faultless s → (k : ℕ) → k < length (words s) → 1 ≤ k → word_verdict (sizes s) k (word_at s k) ≡ Accepted
word_accepted s f k lt le =
    let i : k - 1 < length (drop 1 (words s)) = simp length-drop (omega arith) in
    let e : 1 + (k - 1) ≡ k = omega arith in
    subst (λ n. word_verdict (sizes s) n (word_at s n) ≡ Accepted) e
    (rw get_or-drop at (listed_accepted (sizes s) 1 (drop 1 (words s)) f.faultless (k - 1) i))

-- at one word
record Fine (h : Sizes) (formed : Bool) (tokens : List ℕ) (astray : Bool) : Type 0 where
  is_formed : formed ≡ true
  known : (t : ℕ) → Memᴰ t tokens → t < h.tokens
  not_astray : astray ≡ false

passed : (k : ℕ) (formed unknown astray : Bool) → cond formed (cond unknown (Token k) (cond astray (Reference k) Accepted)) (Form k) ≡ Accepted →
    (formed ≡ true) × (unknown ≡ false) × (astray ≡ false)
passed k true true a e = refused (Token k) (λ z. omega arith) e
passed k true false true e = refused (Reference k) (λ z. omega arith) e
passed k true false false e = (refl, refl, refl)
passed k false u a e = refused (Form k) (λ z. omega arith) e

fine : (h : Sizes) (k : ℕ) (formed : Bool) (tokens : List ℕ) (astray : Bool) → at_word h k formed tokens astray ≡ Accepted → Fine h formed tokens astray
fine h k formed tokens astray e =
    let p = passed k formed (any (λ t. leb h.tokens t) tokens) astray e in
    record { is_formed = p.0; known = none_above h.tokens tokens p.1; not_astray = p.2 }

-- of an agent
record Lower (h : Sizes) (i : ℕ) (a : Agent) : Type 0 where
  tokens : (t : ℕ) → Memᴰ t (tokens_of a) → t < h.tokens
  parts : (b : ℕ) → Memᴰ b (parts_of a) → b < i
  procedures : (p : ℕ) → Memᴰ p (procedures_of a) → p < h.procedures

lower : (h : Sizes) (i : ℕ) (d : Option Agent) → agent_verdict h i d ≡ Accepted → Lower h i (agent_in d)
lower h i None e = refused (Form (2 + i)) (λ z. omega arith) e
lower h i (Some a) e =
    let f = fine h (2 + i) true (tokens_of a) (any (λ b. leb i b) (parts_of a) || any (λ p. leb h.procedures p) (procedures_of a)) e in
    let n = neither (any (λ b. leb i b) (parts_of a)) (any (λ p. leb h.procedures p) (procedures_of a)) f.not_astray in
    record { tokens = f.known; parts = none_above i (parts_of a) n.0; procedures = none_above h.procedures (procedures_of a) n.1 }

chosen : (b : Bool) (v : Verdict) → (verdict_number v ≡ 0 → ⊥) → verdict_number (cond b v Accepted) ≡ 0 → b ≡ false
chosen true v n e = absurd (n e)
chosen false v n e = refl

pub length_accepted : (n : ℕ) → verdict_number (length_verdict n) ≡ 0 → (1 ≤ n) × (n % 4 ≡ 0) × (n ≤ 5384)
length_accepted n e =
    let b = neither (eqb n 0 || not (eqb (n % 4) 0)) (ltb 5384 n) (chosen _ Length (λ z. omega arith) e) in
    let a = neither (eqb n 0) (not (eqb (n % 4) 0)) b.0 in
    let z : (n ≡ 0 → ⊥) = eqb-false n 0 a.0 in
    (omega arith, eqb-true (n % 4) 0 (not-false (eqb (n % 4) 0) a.1), ltb-false 5384 n b.1)

pub count_accepted : (h : Sizes) (n : ℕ) → verdict_number (count_verdict h n) ≡ 0 → (2 + h.agents + h.procedures ≤ n) × (n ≤ 2 + h.agents + h.procedures + 256)
count_accepted h n e =
    let b = neither (ltb n (2 + h.agents + h.procedures)) (ltb (2 + h.agents + h.procedures + 256) n) (chosen _ Count (λ z. omega arith) e) in
    (ltb-false n (2 + h.agents + h.procedures) b.0, ltb-false (2 + h.agents + h.procedures + 256) n b.1)

module _ (s : List ℕ) (f : Faultless s) where
  ports_accepted : ports_verdict (sizes s) 1 (word_at s 1) ≡ Accepted
  unfolding word_verdict
  ports_accepted = word_accepted s f 1 (omega (arith, f.enough)) (omega arith)

  agent_accepted : (i : ℕ) → i < (sizes s).agents → agent_verdict (sizes s) i (decode_agent (word_at s (2 + i))) ≡ Accepted
  unfolding word_verdict
  agent_accepted i lt =
      let a : (2 + i) - 2 ≡ i = omega arith in
      let e : ltb (2 + i) 2 ≡ false = le-ltb (2 + i) 2 (omega arith) in
      let t : ltb (2 + i) (2 + (sizes s).agents) ≡ true = lt-ltb (2 + i) (2 + (sizes s).agents) (omega arith) in
      rw (e, t, a) at (word_accepted s f (2 + i) (omega (arith, f.enough)) (omega arith))

  root_accepted : (p : ℕ) → p < (sizes s).procedures → root_verdict (sizes s) (2 + (sizes s).agents + p) (word_at s (2 + (sizes s).agents + p)) ≡ Accepted
  unfolding word_verdict
  root_accepted p lt =
      let k = 2 + (sizes s).agents + p in
      rw (le-ltb k 2 (omega arith), le-ltb k (2 + (sizes s).agents) (omega arith), lt-ltb k (2 + (sizes s).agents + (sizes s).procedures) (omega arith))
      at (word_accepted s f k (omega (arith, f.enough)) (omega arith))

  rule_accepted : (k : ℕ) → 2 + (sizes s).agents + (sizes s).procedures ≤ k → k < length (words s) → rule_verdict (sizes s) k (word_at s k) ≡ Accepted
  unfolding word_verdict
  rule_accepted k le lt =
      rw (le-ltb k 2 (omega arith), le-ltb k (2 + (sizes s).agents) (omega arith), le-ltb k (2 + (sizes s).agents + (sizes s).procedures) (omega arith))
      at (word_accepted s f k lt (omega arith))

  agent_lower : (i : ℕ) → Lower (sizes s) i (agent_at (decode s) i)
  agent_lower i = go (dec_lt i (sizes s).agents)
    where
      go : Dec (i < (sizes s).agents) → Lower (sizes s) i (agent_at (decode s) i)
      go (yes lt) =
          subst⁻¹ (Lower (sizes s) i) (decode_agent_lem s i lt)
          (lower (sizes s) i (decode_agent (word_at s (2 + i))) (agent_accepted i lt))
      go (no n) =
          let e = decode_agents s (omega (arith, f.enough)) in
          subst⁻¹ (Lower (sizes s) i) (get_or-eq_default (decode s).agents Skip (omega arith))
          (record { tokens = λ t m. elim m [ ]; parts = λ b m. elim m [ ]; procedures = λ p m. elim m [ ] })

  pub tokens_known : (i t : ℕ) → Memᴰ t (tokens_of (agent_at (decode s) i)) → t < (sizes s).tokens
  tokens_known i t m = (agent_lower i).tokens t m

  pub parts_lower : (i b : ℕ) → Memᴰ b (parts_of (agent_at (decode s) i)) → b < i
  parts_lower i b m = (agent_lower i).parts b m

  pub procedures_known : (i p : ℕ) → Memᴰ p (procedures_of (agent_at (decode s) i)) → p < (sizes s).procedures
  procedures_known i p m = (agent_lower i).procedures p m

  pub roots_known : (p : ℕ) → p < (sizes s).procedures → root_of (decode s) p < (sizes s).agents
  roots_known p lt =
      let w = word_at s (2 + (sizes s).agents + p) in
      let g = fine (sizes s) (2 + (sizes s).agents + p) (is_word 3 10 w) [] (leb (sizes s).agents (field w 0 10)) (root_accepted p lt) in
      subst⁻¹ (λ r. r < (sizes s).agents) (decode_root s p lt) (leb-false (sizes s).agents (field w 0 10) g.not_astray)

  ports_fine : let w = word_at s 1 in Fine (sizes s) (is_word 11 16 w) (field w 0 8 ∷ field w 8 8 ∷ []) (ltb (field w 8 8) (field w 0 8))
  ports_fine = let w = word_at s 1 in fine (sizes s) 1 (is_word 11 16 w) (field w 0 8 ∷ field w 8 8 ∷ []) (ltb (field w 8 8) (field w 0 8)) ports_accepted

  pub ports_known : field (word_at s 1) 8 8 < (sizes s).tokens
  ports_known = ports_fine.known (field (word_at s 1) 8 8) (Memᴰ.tail (Memᴰ.head refl))

  pub ports_ordered : field (word_at s 1) 0 8 ≤ field (word_at s 1) 8 8
  ports_ordered = ltb-false (field (word_at s 1) 8 8) (field (word_at s 1) 0 8) ports_fine.not_astray

  module _ (k : ℕ) (le : 2 + (sizes s).agents + (sizes s).procedures ≤ k) (lt : k < length (words s)) where
    rule_fine : let w = word_at s k in Fine (sizes s) (is_rule w) ((rule_of w).conclusion ∷ (rule_of w).premises) false
    rule_fine = let w = word_at s k in fine (sizes s) k (is_rule w) ((rule_of w).conclusion ∷ (rule_of w).premises) false (rule_accepted k le lt)

    pub rules_formed : is_rule (word_at s k) ≡ true
    rules_formed = rule_fine.is_formed

    pub rules_known : let w = word_at s k in (t : ℕ) → Memᴰ t ((rule_of w).conclusion ∷ (rule_of w).premises) → t < (sizes s).tokens
    rules_known = rule_fine.known
