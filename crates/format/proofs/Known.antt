-- What is known of a playable score's agents.
--     agents_all         the score has as many agents as the head says
--     agents_few         and each has a flag
--     roots_whole        it has as many procedures as the head says
--     token_few          a token that an agent names has a flag
--     procedure_known    a procedure that an agent calls is one of the score's
--     part_lower         a body or half has a lower number than its agent
use mathlib.Core.Path.{◌≡◌, sym, ap, subst⁻¹, ◌∙◌}
use mathlib.Core.List.{List, Memᴰ}
use Prim.Native.Nat.{ℕ, ◌<◌, ◌≤◌}
use native.Mathlib.Omega.{arith}
use lib.ListN.{length}
use Rattle.tcc.specs.Score.{Score, agent_at, tokens_of, parts_of, procedures_of}
use Rattle.tcc.specs.Lawful.{Lawful}
use Rattle.tcc.specs.declared.Agent.{Agent}
use Rattle.format.specs.Decode.{sizes, decode}
use Rattle.format.specs.declared.Sizes.{Sizes}
use Rattle.format.specs.Playable.{Playable}
use Rattle.format.proofs.Decode.{decode_agents, decode_roots}

module _ {s : List ℕ} (p : Playable s) where
  module _ {head : Sizes} (says : head ≡ sizes s) where
    pub agents_all : length (decode s).agents ≡ head.agents
    agents_all = decode_agents s (omega (arith, p.whole)) ∙ ap (λ h. h.agents) (sym says)

    pub agents_few : head.agents ≤ 1024
    agents_few = omega (arith, agents_all, p.lawful.agents_at_most)

  pub roots_whole : length (decode s).roots ≡ (sizes s).procedures
  roots_whole = decode_roots s p.whole

  pub token_few : (i : ℕ) {t : ℕ} {a : Agent} → agent_at (decode s) i ≡ a → Memᴰ t (tokens_of a) → t < 256
  token_few i {t} {a} e m =
      let h : t < (decode s).tokens = p.lawful.tokens_known i t (subst⁻¹ (λ x. Memᴰ t (tokens_of x)) e m) in
      omega (arith, p.lawful.tokens_at_most)

  pub procedure_known : (i : ℕ) {q : ℕ} {a : Agent} → agent_at (decode s) i ≡ a → Memᴰ q (procedures_of a) → q < (sizes s).procedures
  procedure_known i {q} {a} e m =
      let h : q < length (decode s).roots = p.lawful.procedures_known i q (subst⁻¹ (λ x. Memᴰ q (procedures_of x)) e m) in
      omega (arith, roots_whole)

pub part_lower : {sc : Score} → Lawful sc → (i b : ℕ) {a : Agent} → agent_at sc i ≡ a → Memᴰ b (parts_of a) → b < i
part_lower {sc} lawful i b e m = lawful.parts_lower i b (subst⁻¹ (λ x. Memᴰ b (parts_of x)) e m)
