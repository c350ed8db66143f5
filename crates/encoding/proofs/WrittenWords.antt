-- A written word, read: it is of its kind, its unnamed bits are clear, and its fields are its parts.
--     Made              a word of a kind, with a number below that has no more bits than are named
--     made_kind, made_clear, made_word, made_low, made_small
--                       so it is of that kind, the other bits are clear, the named ones are the number, and it has 32 bits
--     head_made, head_sizes     the head says its sizes
--     ports_made, ports_lowest, ports_highest     the ports word says its ports
--     AgentFits         an agent whose tokens, parts and procedure a word can hold
--     guarded           a word with a body below a token, as when and unless have it
--     AgentRead, agent_read     such an agent's word decodes to the agent
--     root_made         a procedure's word
--     RuleFits          a rule whose tokens a word can hold
--     RuleRead          a rule's word has the form of a rule, and says that rule
--     fact_read, both_read, rule_read     so it is with no premise and with two, that is, of each rule that a word can say
use mathlib.Core.Path.{◌≡◌, refl, sym, ap, subst⁻¹, ◌∙◌}
use mathlib.Core.Bool.{true, false}
use mathlib.Core.List.Memᴰ
use mathlib.Core.List.{[], ◌∷◌}
use mathlib.Core.Logic.{inl, inr}
use Prim.Native.Nat.{ℕ, ◌+◌, ◌-◌, ◌*◌, ◌^◌, ◌<◌, ◌≤◌}
use native.Mathlib.Omega.{arith}
use borrow.Author.Tests.{eq-eqb, ne_eqb}
use lib.Pow.{pow_mono, pow_pos, pow-add}
use Rattle.std.proofs.Common.{Some}
use Rattle.laws.proofs.Booleans.{both_and}
use Rattle.laws.proofs.Sets.{Within}
use Rattle.tcc.specs.Closure.{Rule}
use Rattle.tcc.specs.Score.{tokens_of, parts_of, procedures_of}
use Rattle.tcc.specs.declared.Agent.{Agent}
use Rattle.tcc.specs.declared.Agent.TheVariants.{Skip, Abort, Tell, Parallel, When, Next, Unless, Call}
use Rattle.words.specs.Word.{field, kind}
use Rattle.format.specs.Format.{clear, is_word, sizes_of, decode_agent, is_fact, is_rule, rule_of}
use Rattle.format.proofs.Rule.{rule_fact, rule_plain, premises_fact, premises_plain}
use Rattle.encoding.specs.Encode.{head_word, ports_word, agent_word, root_word, rule_word, RuleFormed}
use Rattle.encoding.proofs.Fields.{field_part}

pub record Made (k named low w : ℕ) : Type 0 where
  pub few : k < 16
  pub within : named ≤ 28
  pub small : low < 2 ^ named
  pub is : w ≡ k * 2 ^ 28 + low

module _ {k named low w : ℕ} (m : Made k named low w) where
  pub made_kind : kind w ≡ k
  made_kind = field_part 0 low 28 4 (m.is ∙ omega arith) (omega (arith, pow_mono m.within)) m.few

  pub made_clear : clear named w ≡ true
  made_clear = eq-eqb (field w named (28 - named)) 0 (field_part k low named (28 - named) (m.is ∙ shifted) m.small (pow_pos (28 - named)))
    where
      shifted : k * 2 ^ 28 + low ≡ k * 2 ^ (28 - named + named) + 0 * 2 ^ named + low
      shifted = let e : 28 - named + named ≡ 28 = omega arith in rw e (omega arith)

  pub made_word : is_word k named w ≡ true
  unfolding is_word
  made_word = both_and (eq-eqb (kind w) k made_kind) made_clear

  pub made_low : field w 0 named ≡ low
  made_low = field_part (k * 2 ^ (28 - named)) 0 0 named (m.is ∙ shifted) (omega arith) m.small
    where
      shifted : k * 2 ^ 28 + low ≡ k * 2 ^ (28 - named) * 2 ^ (named + 0) + low * 2 ^ 0 + 0
      shifted =
          let e : 28 - named + (named + 0) ≡ 28 = omega arith in
          let whole : 2 ^ 28 ≡ 2 ^ (28 - named) * 2 ^ (named + 0) = ap (λ n. 2 ^ n) (sym e) ∙ pow-add 2 (28 - named) (named + 0) in
          ap (λ x. k * x + low) whole ∙ omega arith

  pub made_small : w < 2 ^ 32
  made_small = omega (arith, pow_mono m.within)

-- ---- the head

module _ (tokens agents procedures : ℕ) (t : tokens ≤ 256) (n : agents ≤ 1024) (p : procedures ≤ 64) where
  pub head_made : Made 1 24 (tokens - 1 + (agents - 1) * 2 ^ 8 + (procedures - 1) * 2 ^ 18) (head_word tokens agents procedures)
  head_made = omega arith

  pub head_sizes : 1 ≤ tokens → 1 ≤ agents → 1 ≤ procedures → sizes_of (head_word tokens agents procedures) ≡ record { tokens = tokens; agents = agents; procedures = procedures }
  head_sizes t' n' p' =
      let w = head_word tokens agents procedures in
      let first : field w 0 8 ≡ tokens - 1 = field_part (2 ^ 20 + (procedures - 1) * 2 ^ 10 + (agents - 1)) 0 0 8 (omega arith) (omega arith) (omega arith) in
      let second : field w 8 10 ≡ agents - 1 = field_part (2 ^ 10 + (procedures - 1)) (tokens - 1) 8 10 (omega arith) (omega arith) (omega arith) in
      let third : field w 18 6 ≡ procedures - 1 = field_part (2 ^ 4) (tokens - 1 + (agents - 1) * 2 ^ 8) 18 6 (omega arith) (omega arith) (omega arith) in
      let a : field w 0 8 + 1 ≡ tokens = omega arith in
      let b : field w 8 10 + 1 ≡ agents = omega arith in
      let c : field w 18 6 + 1 ≡ procedures = omega arith in
      λ i. record { tokens = a i; agents = b i; procedures = c i }

-- ---- the ports

module _ (lowest highest : ℕ) (l : lowest < 256) (h : highest < 256) where
  pub ports_made : Made 11 16 (lowest + highest * 2 ^ 8) (ports_word lowest highest)
  ports_made = omega arith

  pub ports_lowest : field (ports_word lowest highest) 0 8 ≡ lowest
  ports_lowest = field_part (11 * 2 ^ 20 + highest) 0 0 8 (omega arith) (omega arith) l

  pub ports_highest : field (ports_word lowest highest) 8 8 ≡ highest
  ports_highest = field_part (11 * 2 ^ 12) lowest 8 8 (omega arith) l h

-- ---- an agent

pub record AgentFits (a : Agent) : Type 0 where
  pub tokens : Within (λ t. t < 256) (tokens_of a)
  pub parts : Within (λ b. b < 1024) (parts_of a)
  pub procedures : Within (λ p. p < 64) (procedures_of a)

pub record AgentRead (a : Agent) : Type 0 where
  pub decoded : decode_agent (agent_word a) ≡ Some a
  pub small : agent_word a < 2 ^ 32

skip_decoded : decode_agent (agent_word Skip) ≡ Some Skip
unfolding decode_agent field
skip_decoded = refl

abort_decoded : decode_agent (agent_word Abort) ≡ Some Abort
unfolding decode_agent field
abort_decoded = refl

abbrev guarded : ℕ → ℕ → ℕ → ℕ
guarded k t b = k * 2 ^ 28 + b + t * 2 ^ 10

module _ (k t b : ℕ) (few : k < 16) (known : t < 256) (lower : b < 1024) where
  guarded_made : Made k 18 (b + t * 2 ^ 10) (guarded k t b)
  guarded_made = omega arith

  guarded_body : field (guarded k t b) 0 10 ≡ b
  guarded_body = field_part (k * 2 ^ 18 + t) 0 0 10 (omega arith) (omega arith) lower

  guarded_token : field (guarded k t b) 10 8 ≡ t
  guarded_token = field_part (k * 2 ^ 10) b 10 8 (omega arith) lower known

pub agent_read : (a : Agent) → AgentFits a → AgentRead a
unfolding decode_agent
agent_read Skip f = record { decoded = skip_decoded; small = omega arith }
agent_read Abort f = record { decoded = abort_decoded; small = omega arith }
agent_read (Tell t) f =
    let known : t < 256 = f.tokens t (Memᴰ.head refl) in
    let m : Made 5 8 t (agent_word (Tell t)) = omega arith in
    record { decoded = rw (made_kind m, made_clear m, made_low m); small = made_small m }
agent_read (Parallel a b) f =
    let p : a < 1024 = f.parts a (Memᴰ.head refl) in
    let q : b < 1024 = f.parts b (Memᴰ.tail (Memᴰ.head refl)) in
    let m : Made 6 20 (a + b * 2 ^ 10) (agent_word (Parallel a b)) = omega arith in
    let first : field (agent_word (Parallel a b)) 0 10 ≡ a = field_part (6 * 2 ^ 18 + b) 0 0 10 (omega arith) (omega arith) p in
    let second : field (agent_word (Parallel a b)) 10 10 ≡ b = field_part (6 * 2 ^ 8) a 10 10 (omega arith) p q in
    record { decoded = rw (made_kind m, made_clear m, first, second); small = made_small m }
agent_read (When t b) f =
    let known : t < 256 = f.tokens t (Memᴰ.head refl) in
    let lower : b < 1024 = f.parts b (Memᴰ.head refl) in
    let few : 7 < 16 = omega arith in
    let m = guarded_made 7 t b few known lower in
    record { decoded = rw (made_kind m, made_clear m, guarded_body 7 t b few known lower, guarded_token 7 t b few known lower); small = made_small m }
agent_read (Next b) f =
    let lower : b < 1024 = f.parts b (Memᴰ.head refl) in
    let m : Made 8 10 b (agent_word (Next b)) = omega arith in
    record { decoded = rw (made_kind m, made_clear m, made_low m); small = made_small m }
agent_read (Unless t b) f =
    let known : t < 256 = f.tokens t (Memᴰ.head refl) in
    let lower : b < 1024 = f.parts b (Memᴰ.head refl) in
    let few : 9 < 16 = omega arith in
    let m = guarded_made 9 t b few known lower in
    record { decoded = rw (made_kind m, made_clear m, guarded_body 9 t b few known lower, guarded_token 9 t b few known lower); small = made_small m }
agent_read (Call p) f =
    let known : p < 64 = f.procedures p (Memᴰ.head refl) in
    let m : Made 10 6 p (agent_word (Call p)) = omega arith in
    record { decoded = rw (made_kind m, made_clear m, made_low m); small = made_small m }

-- ---- a procedure

pub root_made : (i : ℕ) → i < 1024 → Made 3 10 i (root_word i)
root_made i h = omega arith

-- ---- a rule

pub record RuleFits (r : Rule ℕ) : Type 0 where
  pub conclusion : r.conclusion < 256
  pub premises : Within (λ t. t < 256) r.premises

pub record RuleRead (r : Rule ℕ) : Type 0 where
  pub formed : is_rule (rule_word r) ≡ true
  pub same : rule_of (rule_word r) ≡ r
  pub small : rule_word r < 2 ^ 32

abbrev fact : ℕ → Rule ℕ
fact c = record { premises = []; conclusion = c }

fact_read : (c : ℕ) → c < 256 → RuleRead (fact c)
fact_read c h =
    let w = rule_word (fact c) in
    let m : Made 2 28 (2 ^ 27 + c) w = omega arith in
    let bit : field w 27 1 ≡ 1 = field_part 2 c 27 1 (omega arith) (omega arith) (omega arith) in
    let none : field w 8 19 ≡ 0 = field_part 5 c 8 19 (omega arith) h (omega arith) in
    let conclusion : field w 0 8 ≡ c = field_part (5 * 2 ^ 19) 0 0 8 (omega arith) (omega arith) h in
    let is-fact : is_fact w ≡ true = eq-eqb (field w 27 1) 1 bit in
    let premises : (rule_of w).premises ≡ [] = premises_fact w is-fact in
    record {
      formed = rule_fact w is-fact ∙ both_and (eq-eqb (kind w) 2 (made_kind m)) (eq-eqb (field w 8 19) 0 none);
      same = λ i. record { premises = premises i; conclusion = conclusion i };
      small = made_small m;
    }

abbrev both : ℕ → ℕ → ℕ → Rule ℕ
both p q c = record { premises = p ∷ q ∷ []; conclusion = c }

both_read : (p q c : ℕ) → p < 256 → q < 256 → c < 256 → RuleRead (both p q c)
both_read p q c x y z =
    let w = rule_word (both p q c) in
    let m : Made 2 24 (c + p * 2 ^ 8 + q * 2 ^ 16) w = omega arith in
    let bit : field w 27 1 ≡ 0 = field_part 2 (c + p * 2 ^ 8 + q * 2 ^ 16) 27 1 (omega arith) (omega arith) (omega arith) in
    let conclusion : field w 0 8 ≡ c = field_part (2 ^ 21 + q * 2 ^ 8 + p) 0 0 8 (omega arith) (omega arith) z in
    let first : field w 8 8 ≡ p = field_part (2 ^ 13 + q) c 8 8 (omega arith) z x in
    let second : field w 16 8 ≡ q = field_part (2 ^ 5) (c + p * 2 ^ 8) 16 8 (omega arith) (omega arith) y in
    let no-fact : is_fact w ≡ false = ne_eqb (field w 27 1) 1 (λ e. omega arith) in
    let premises : (rule_of w).premises ≡ p ∷ q ∷ [] = premises_plain w no-fact ∙ (λ i. first i ∷ second i ∷ []) in
    record {
      formed = rule_plain w no-fact ∙ made_word m;
      same = λ i. record { premises = premises i; conclusion = conclusion i };
      small = made_small m;
    }

pub rule_read : (r : Rule ℕ) → RuleFormed r → RuleFits r → RuleRead r
rule_read r (inl e) f = subst⁻¹ (λ l. RuleRead (record { premises = l; conclusion = r.conclusion })) e (fact_read r.conclusion f.conclusion)
rule_read r (inr (p, q, e)) f =
    let known : Within (λ t. t < 256) (p ∷ q ∷ []) = rw e at f.premises in
    subst⁻¹ (λ l. RuleRead (record { premises = l; conclusion = r.conclusion })) e
    (both_read p q r.conclusion (known p (Memᴰ.head refl)) (known q (Memᴰ.tail (Memᴰ.head refl))) f.conclusion)
