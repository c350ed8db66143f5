-- A draft's agents, read in the score that has each watch as a when.
--     when_at                    its agent i is agent i of the draft, a watch read as a when
--     when_is                    so where the form of agent i is known
--     whens_many                 it has as many agents
--     token_known                the tokens that an agent names are the draft's
--     body_lower                 the body of a watch is lower than it
--     part_known, root_known     a body or half of a known agent is known, and so is the root that an agent calls
use mathlib.Core.Path.{◌≡◌, refl, sym, ap, ◌∙◌, subst}
use mathlib.Core.List.{Memᴰ}
use Prim.Native.Nat.{ℕ, ◌<◌}
use native.Mathlib.Omega.{arith}
use lib.ListN.{length, length-map, get_or-map}
use Rattle.laws.proofs.Sets.{Within}
use Rattle.tcc.specs.Score.{agent_at, tokens_of, parts_of}
use Rattle.tcc.specs.declared.Agent.TheVariants.{Skip, Call}
use Rattle.tcc.proofs.Multiset.{part_lower, part_below, root_below}
use Rattle.draft_language.specs.Draft.{Draft, draft_agent_at, root_of, as_when, whens, LawfulDraft}
use Rattle.draft_language.specs.declared.DraftAgent.{DraftAgent}
use Rattle.draft_language.specs.declared.DraftAgent.TheVariants.{Plain, Watch}

module _ (d : Draft) where
  pub when_at : (i : ℕ) → agent_at (whens d) i ≡ as_when (draft_agent_at d i)
  when_at i = get_or-map as_when d.agents i (Plain Skip)

  pub when_is : (i : ℕ) {x : DraftAgent} → draft_agent_at d i ≡ x → agent_at (whens d) i ≡ as_when x
  when_is i e = when_at i ∙ ap as_when e

  pub whens_many : length (whens d).agents ≡ length d.agents
  whens_many = length-map d.agents as_when

  module _ (law : LawfulDraft d) where
    pub token_known : (i : ℕ) {x : DraftAgent} → draft_agent_at d i ≡ x → Within (λ t. t < d.tokens) (tokens_of (as_when x))
    token_known i e t m = law.tokens_known i t (subst (λ a. Memᴰ t (tokens_of a)) (sym (when_is i e)) m)

    pub body_lower : (i : ℕ) {t b : ℕ} → draft_agent_at d i ≡ Watch t b → b < i
    body_lower i {t} {b} e = part_lower (whens d) law i (when_is i e) b (Memᴰ.head refl)

    pub part_known : (i : ℕ) {x : DraftAgent} → i < length d.agents → draft_agent_at d i ≡ x → Within (λ b. b < length d.agents) (parts_of (as_when x))
    part_known i h e b m = subst (λ n. b < n) whens_many (part_below (whens d) law i (omega (arith, whens_many)) (when_is i e) b m)

    pub root_known : (i p : ℕ) → draft_agent_at d i ≡ Plain (Call p) → root_of d p < length d.agents
    root_known i p e = subst (λ n. root_of d p < n) whens_many (root_below (whens d) law i p (when_is i e))
