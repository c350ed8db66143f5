-- A read word, written: a word of a known kind whose unnamed bits are clear is the sum of its fields.
--     kind_sum, named_sum, word_sum     its kind, and below that its other bits, its named bits
--     Says, agent_says     a word that decodes to an agent is the agent's word
--     head_again, ports_again, agent_again, root_again, rule_again     so the word of what a word says is that word
use mathlib.Core.Path.{◌≡◌, refl, sym, ap, subst, ◌∙◌}
use mathlib.Core.Bool.{Bool, true, false, cond}
use Prim.Native.Nat.{ℕ, ◌+◌, ◌-◌, ◌*◌, ◌^◌, ◌<◌, ◌≤◌}
use native.Mathlib.Nat.{zero-add}
use native.Mathlib.Omega.{arith}
use borrow.Author.Tests.{eqb-true, eqb-false}
use lib.Dec.{eqb}
use Rattle.std.proofs.Common.{Option, Some, None}
use Rattle.laws.proofs.Booleans.{and_both, by_test}
use Rattle.tcc.specs.declared.Agent.{Agent}
use Rattle.tcc.specs.declared.Agent.TheVariants.{Skip, Abort, Tell, Parallel, When, Next, Unless, Call}
use Rattle.words.specs.Word.{field, kind}
use Rattle.words.proofs.Field.{field_below}
use Rattle.format.specs.Format.{clear, is_word, sizes_of, formed, decode_agent, is_fact, is_rule, rule_of}
use Rattle.format.proofs.Rule.{rule_fact, rule_plain, premises_fact, premises_plain}
use Rattle.encoding.specs.Encode.{head_word, ports_word, agent_word, root_word, rule_word, premise_bits}
use Rattle.encoding.proofs.Fields.{field_join, field_low}

abbrev Says : ℕ → Option Agent → Type 0
Says w (Some a) = agent_word a ≡ w
Says w None = Unit {0}

module _ (w : ℕ) (small : w < 2 ^ 32) where
  kind_sum : w ≡ kind w * 2 ^ 28 + field w 0 28
  kind_sum = sym (field_low 32 small) ∙ field_join w 0 28 4

  named_sum : (k named : ℕ) → named ≤ 28 → kind w ≡ k → clear named w ≡ true → w ≡ k * 2 ^ 28 + field w 0 named
  named_sum k named within is-kind is_clear =
      let none : field w (0 + named) (28 - named) ≡ 0 = ap (λ n. field w n (28 - named)) (zero-add named) ∙ eqb-true (field w named (28 - named)) 0 is_clear in
      let e : 28 - named + named ≡ 28 = omega arith in
      let low : field w 0 28 ≡ field w 0 named = ap (field w 0) (sym e) ∙ field_join w 0 named (28 - named) ∙ ap (λ x. x * 2 ^ named + field w 0 named) none ∙ omega arith in
      omega (arith, kind_sum)

  pub word_sum : (k named : ℕ) → named ≤ 28 → is_word k named w ≡ true → w ≡ k * 2 ^ 28 + field w 0 named
  unfolding is_word
  word_sum k named within e =
      let b = and_both (eqb (kind w) k) (clear named w) e in
      named_sum k named within (eqb-true (kind w) k b.0) b.1

  pub head_again : is_word 1 24 w ≡ true → head_word (sizes_of w).tokens (sizes_of w).agents (sizes_of w).procedures ≡ w
  head_again e = omega (arith, word_sum 1 24 (omega arith) e, field_join w 0 18 6, field_join w 0 8 10)

  pub ports_again : is_word 11 16 w ≡ true → ports_word (field w 0 8) (field w 8 8) ≡ w
  ports_again e = omega (arith, word_sum 11 16 (omega arith) e, field_join w 0 8 8)

  pub root_again : is_word 3 10 w ≡ true → root_word (field w 0 10) ≡ w
  root_again e = sym (word_sum 3 10 (omega arith) e)

  says_formed : (k named : ℕ) (a : Agent) → named ≤ 28 → (w ≡ k * 2 ^ 28 + field w 0 named → agent_word a ≡ w) → eqb (kind w) k ≡ true → Says w (formed w named a)
  says_formed k named a within again e = by_test (Says w) (clear named w) (λ c. again (named_sum k named within (eqb-true (kind w) k e) c)) (λ c. tt)

  skip_again : w ≡ 4 * 2 ^ 28 + field w 0 1 → agent_word (cond (eqb (field w 0 1) 0) Skip Abort) ≡ w
  skip_again e =
      by_test (λ a. agent_word a ≡ w) (eqb (field w 0 1) 0)
      (λ z. omega (arith, eqb-true (field w 0 1) 0 z))
      (λ n. let one : (field w 0 1 ≡ 0 → ⊥) = eqb-false (field w 0 1) 0 n in omega (arith, field_below w 0 1))

  agent_says : Says w (decode_agent w)
  unfolding decode_agent
  agent_says =
      by_test (Says w) (eqb (kind w) 4) (says_formed 4 1 (cond (eqb (field w 0 1) 0) Skip Abort) (omega arith) skip_again)
      (λ n. by_test (Says w) (eqb (kind w) 5) (says_formed 5 8 (Tell (field w 0 8)) (omega arith) sym)
      (λ n. by_test (Says w) (eqb (kind w) 6) (says_formed 6 20 (Parallel (field w 0 10) (field w 10 10)) (omega arith) (λ e. omega (arith, field_join w 0 10 10)))
      (λ n. by_test (Says w) (eqb (kind w) 7) (says_formed 7 18 (When (field w 10 8) (field w 0 10)) (omega arith) (λ e. omega (arith, field_join w 0 10 8)))
      (λ n. by_test (Says w) (eqb (kind w) 8) (says_formed 8 10 (Next (field w 0 10)) (omega arith) sym)
      (λ n. by_test (Says w) (eqb (kind w) 9) (says_formed 9 18 (Unless (field w 10 8) (field w 0 10)) (omega arith) (λ e. omega (arith, field_join w 0 10 8)))
      (λ n. by_test (Says w) (eqb (kind w) 10) (says_formed 10 6 (Call (field w 0 6)) (omega arith) sym)
      (λ n. tt)))))))

  pub agent_again : (a : Agent) → decode_agent w ≡ Some a → agent_word a ≡ w
  agent_again a e = subst (Says w) e agent_says

  pub rule_again : is_rule w ≡ true → rule_word (rule_of w) ≡ w
  rule_again e = go (is_fact w) refl
    where
      go : (b : Bool) → is_fact w ≡ b → rule_word (rule_of w) ≡ w
      go true f =
          let b = and_both (eqb (kind w) 2) (eqb (field w 8 19) 0) (sym (rule_fact w f) ∙ e) in
          ap (λ l. 2 * 2 ^ 28 + field w 0 8 + premise_bits l) (premises_fact w f)
          ∙ omega (arith, kind_sum, eqb-true (kind w) 2 b.0, eqb-true (field w 27 1) 1 f, eqb-true (field w 8 19) 0 b.1, field_join w 0 27 1, field_join w 0 8 19)
      go false f =
          ap (λ l. 2 * 2 ^ 28 + field w 0 8 + premise_bits l) (premises_plain w f)
          ∙ omega (arith, word_sum 2 24 (omega arith) (sym (rule_plain w f) ∙ e), field_join w 0 16 8, field_join w 0 8 8)
