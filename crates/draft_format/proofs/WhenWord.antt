-- An agent word of a draft, and the word with kind 15 as kind 7.
--     watch_written, plain_written     the agent of a word of kind 15, and of any other
--     when_word            the word with kind 15 as kind 7
--     joined_kind          the kind of a word of four bytes is in the highest
--     joined_kept          the word stays where that is below 240
--     joined_less          where not, its highest byte is less by 128
--     zero_kept            a word that is not there stays
--     watch_malformed      no agent of a score has kind 15
--     written_read         where the word with kind 15 as kind 7 has an agent, that is the draft's with a watch as a when
use mathlib.Core.Path.{◌≡◌, refl, sym, ap, ap₂, ◌∙◌}
use mathlib.Core.Bool.{Bool, true, false, cond}
use mathlib.Core.Logic.{by_cases}
use Prim.Native.Nat.{ℕ, ◌-◌, ◌/◌, ◌^◌, ◌<◌, ◌≤◌}
use native.Mathlib.Decide.{ℕ_discrete}
use native.Mathlib.Omega.{arith}
use borrow.Author.Tests.{eq-eqb, ne_eqb}
use lib.Dec.{eqb}
use Rattle.std.proofs.Common.{Some, None}
use Rattle.laws.proofs.Booleans.{cond_true, cond_false}
use Rattle.tcc.specs.declared.Agent.{Agent}
use Rattle.tcc.specs.declared.Agent.TheVariants.{When}
use Rattle.words.specs.Word.{joined, field, kind}
use Rattle.format.specs.Format.{clear, formed, decode_agent, agent_in, agent_of}
use Rattle.draft_language.specs.Draft.{as_when}
use Rattle.draft_language.specs.declared.DraftAgent.TheVariants.{Plain, Watch}
use Rattle.draft_format.specs.DraftFile.{draft_agent_of}

abbrev pub when_word : ℕ → ℕ
when_word w = cond (eqb (kind w) 15) (w - 2 ^ 31) w

module _ (w : ℕ) (is : kind w ≡ 15) where
  pub watch_written : Watch (field w 10 8) (field w 0 10) ≡ draft_agent_of w
  watch_written = cond_true (Plain (agent_of w)) (eq-eqb (kind w) 15 is) refl

  pub watch_malformed : decode_agent w ≡ None
  unfolding decode_agent
  watch_malformed = rw is

  word_less : w - 2 ^ 31 ≡ when_word w
  word_less = cond_true w (eq-eqb (kind w) 15 is) refl

  when_kind : kind (w - 2 ^ 31) ≡ 7
  unfolding field
  when_kind = omega arith

  when_token : field (w - 2 ^ 31) 10 8 ≡ field w 10 8
  unfolding field
  when_token = omega arith

  when_body : field (w - 2 ^ 31) 0 10 ≡ field w 0 10
  unfolding field
  when_body = omega arith

module _ (w : ℕ) (is-not : kind w ≡ 15 → ⊥) where
  pub plain_written : Plain (agent_of w) ≡ draft_agent_of w
  plain_written = cond_false (Watch (field w 10 8) (field w 0 10)) (ne_eqb (kind w) 15 is-not) refl

  word_kept : w ≡ when_word w
  word_kept = cond_false (w - 2 ^ 31) (ne_eqb (kind w) 15 is-not) refl

module _ (a b c d : ℕ) (small : (a < 256) × (b < 256) × (c < 256) × (d < 256)) where
  pub joined_kind : kind (joined a b c d) ≡ d / 16
  unfolding field
  joined_kind = omega arith

  pub joined_kept : d < 240 → joined a b c d ≡ when_word (joined a b c d)
  joined_kept h = word_kept (joined a b c d) (λ is. omega (arith, joined_kind))

  pub joined_less : 240 ≤ d → joined a b c (d - 128) ≡ when_word (joined a b c d)
  joined_less h = let less : joined a b c (d - 128) ≡ joined a b c d - 2 ^ 31 = omega arith in less ∙ word_less (joined a b c d) (omega (arith, joined_kind))

pub zero_kept : 0 ≡ when_word 0
unfolding field
zero_kept = refl

when_decoded : (w : ℕ) → kind w ≡ 7 → decode_agent w ≡ formed w 18 (When (field w 10 8) (field w 0 10))
unfolding decode_agent
when_decoded w is = rw is

formed_whole : (w named : ℕ) (a : Agent) → (formed w named a ≡ None → ⊥) → agent_in (formed w named a) ≡ a
formed_whole w named a whole = go (clear named w) whole
  where
    go : (b : Bool) → (cond b (Some a) None ≡ None → ⊥) → agent_in (cond b (Some a) None) ≡ a
    go true n = refl
    go false n = absurd (n refl)

when_read : (w : ℕ) → kind w ≡ 15 → (decode_agent (w - 2 ^ 31) ≡ None → ⊥) → When (field w 10 8) (field w 0 10) ≡ agent_of (w - 2 ^ 31)
when_read w is whole =
    let v = w - 2 ^ 31 in
    let d = when_decoded v (when_kind w is) in
    sym (ap agent_in d ∙ formed_whole v 18 (When (field v 10 8) (field v 0 10)) (λ m. whole (d ∙ m)) ∙ ap₂ When (when_token w is) (when_body w is))

pub written_read : (w : ℕ) → (decode_agent (when_word w) ≡ None → ⊥) → as_when (draft_agent_of w) ≡ agent_of (when_word w)
written_read w whole = by_cases (ℕ_discrete (kind w) 15)
    (λ is. ap as_when (sym (watch_written w is)) ∙ when_read w is (λ m. whole (ap decode_agent (sym (word_less w is)) ∙ m)) ∙ ap agent_of (word_less w is))
    (λ is-not. ap as_when (sym (plain_written w is-not)) ∙ ap agent_of (word_kept w is-not))
