-- The pairs that a plain score is made of, where no more of them are led to than fit.
--     when_at                             an agent of the draft with whens for watches
--     leads_agent, leads_procedure        what a pair leads to, by its number
--     agent_led, procedure_led            the pairs of a plain score are led to
--     draft_agents, written_parts, written_tokens     what is lawful in a draft, of an agent as it is written
--     led_agent, led_procedure            a pair that is led to is of an agent or of a procedure, by its number
--     agent_listed, procedure_listed      whatever is led to is among the pairs
--     part_listed, part_before            so is what a part leads to, which is a lower agent
--     call_listed, root_listed            and what a call and a root lead to
use mathlib.Core.Path.{◌≡◌, refl, ap, subst⁻¹, ◌∙◌}
use mathlib.Core.List.Memᴰ
use mathlib.Core.List.{[], ◌∷◌, map, Memᴰ}
use mathlib.Core.Logic.{◌⊎◌, inl, inr}
use Prim.Native.Nat.{ℕ, ◌-◌, ◌<◌, ◌≤◌}
use native.Mathlib.Omega.{arith}
use lib.Dec.{ltb, leb}
use lib.ListN.{length, length-map, get_or-map}
use borrow.Author.Tests.{ltb-true, leb-true, lt-ltb, le-ltb, le-leb}
use Rattle.laws.proofs.Sets.{Within, on_keep, keep_kept, map_member}
use Rattle.tcc.specs.Score.{agent_at, tokens_of, parts_of, procedures_of}
use Rattle.tcc.specs.declared.Agent.{Agent}
use Rattle.tcc.specs.declared.Agent.TheVariants.{Skip}
use Rattle.tcc.proofs.Multiset.{part_lower}
use Rattle.draft_language.specs.Draft.{Draft, draft_agent_at, root_of, as_when, whens, LawfulDraft}
use Rattle.draft_language.specs.declared.DraftAgent.TheVariants.{Plain}
use Rattle.draft_plain.specs.Stands.{root}
use Rattle.draft_pairs.specs.Pairs.{pair, number_in, set_in}
use Rattle.draft_plain.specs.Places.{procedure_at, target, agent_leads, leads_to, places, agent_places, procedure_places}
use Rattle.draft_pairs.proofs.TokenSets.{number_pair, set_bound, pair_before}
use Rattle.draft_plain.specs.Led.{Led, on}
use Rattle.draft_plain.proofs.Places.{KnownAgent, led_known, led_stands_agent, led_stands_procedure, stands_bound_agent, target_lower}
use Rattle.draft_plain.proofs.Copying.{PlacesFit, places_led, places_closed, led_closed}

pub when_at : (d : Draft) (i : ℕ) → agent_at (whens d) i ≡ as_when (draft_agent_at d i)
when_at d i = get_or-map as_when d.agents i (Plain Skip)

pub leads_agent : (d : Draft) (k : ℕ) {a : Agent} → number_in k < 1024 → draft_agent_at d (number_in k) ≡ Plain a → leads_to d k ≡ agent_leads d (set_in k) (Plain a)
unfolding leads_to
leads_agent d k h e = rw (lt-ltb (number_in k) 1024 h, e)

pub leads_procedure : (d : Draft) (k : ℕ) → 1024 ≤ number_in k → leads_to d k ≡ target d (root_of d (number_in k - 1024)) (set_in k) ∷ []
unfolding leads_to
leads_procedure d k h = rw (le-ltb (number_in k) 1024 h)

pub agent_led : (d : Draft) {k : ℕ} → Memᴰ k (agent_places (places d)) → Led d k × (number_in k < 1024)
agent_led d {k} m = on_keep {P = λ k. Led d k × (number_in k < 1024)} (λ k. ltb (number_in k) 1024) (places d) (λ k m e. (places_led d k m, ltb-true (number_in k) 1024 e)) k m

pub procedure_led : (d : Draft) {k : ℕ} → Memᴰ k (procedure_places (places d)) → Led d k × (1024 ≤ number_in k)
procedure_led d {k} m = on_keep {P = λ k. Led d k × (1024 ≤ number_in k)} (λ k. leb 1024 (number_in k)) (places d) (λ k m e. (places_led d k m, leb-true 1024 (number_in k) e)) k m

module _ (d : Draft) (law : LawfulDraft d) where
  pub draft_agents : length d.agents ≤ 1024
  draft_agents = omega (arith, law.agents_at_most, length-map d.agents as_when)

  pub written_parts : (i : ℕ) {a : Agent} → draft_agent_at d i ≡ Plain a → Within (λ b. b < i) (parts_of a)
  written_parts i e = part_lower (whens d) law i (when_at d i ∙ ap as_when e)

  pub written_tokens : (i : ℕ) {a : Agent} → draft_agent_at d i ≡ Plain a → Within (λ t. t < d.tokens) (tokens_of a)
  written_tokens i e t m = law.tokens_known i t (subst⁻¹ (λ a. Memᴰ t (tokens_of a)) (when_at d i ∙ ap as_when e) m)

  pub led_agent : {k : ℕ} → Led d k → number_in k < 1024 → KnownAgent d k
  led_agent {k} l h = go (led_known d law k l).kind
    where
      go : KnownAgent d k ⊎ ((p : ℕ) × (p < length d.roots) × (number_in k ≡ procedure_at p)) → KnownAgent d k
      go (inl a) = a
      go (inr q) = let e = q.2 in absurd (omega arith)

  pub led_procedure : {k : ℕ} → Led d k → 1024 ≤ number_in k → (p : ℕ) × (p < length d.roots) × (number_in k ≡ procedure_at p)
  led_procedure {k} l h = go (led_known d law k l).kind
    where
      go : KnownAgent d k ⊎ ((p : ℕ) × (p < length d.roots) × (number_in k ≡ procedure_at p)) → (p : ℕ) × (p < length d.roots) × (number_in k ≡ procedure_at p)
      go (inl a) = let known = a.known in absurd (omega (arith, draft_agents))
      go (inr q) = q

  module _ (fit : PlacesFit (places d)) where
    pub agent_listed : {k : ℕ} → Led d k → number_in k < 1024 → Memᴰ k (agent_places (places d))
    agent_listed {k} l h = keep_kept (λ k. ltb (number_in k) 1024) (led_closed d (places d) (places_closed d fit) k l) (lt-ltb (number_in k) 1024 h)

    pub procedure_listed : {k : ℕ} → Led d k → 1024 ≤ number_in k → Memᴰ k (procedure_places (places d))
    procedure_listed {k} l h = keep_kept (λ k. leb 1024 (number_in k)) (led_closed d (places d) (places_closed d fit) k l) (le-leb 1024 (number_in k) h)

    -- a pair of an agent other than a watch
    module _ (k : ℕ) (m : Memᴰ k (agent_places (places d))) {a : Agent} (e : draft_agent_at d (number_in k) ≡ Plain a) where
      leads_on : {j : ℕ} → Memᴰ j (agent_leads d (set_in k) (Plain a)) → Led d j
      leads_on {j} n = on (agent_led d m).0 (subst⁻¹ (λ l. Memᴰ j l) (leads_agent d k (agent_led d m).1 e) n)

      target_below : {b : ℕ} → Memᴰ b (parts_of a) → number_in (target d b (set_in k)) < number_in k
      target_below {b} n =
          let lower = written_parts (number_in k) e b n in
          let known = led_agent (agent_led d m).0 (agent_led d m).1 in
          let bound = stands_bound_agent d law (number_in k) (set_in k) (led_stands_agent d law k (agent_led d m).0 known) in
          let below : b < length d.agents = omega arith in
          omega (arith, target_lower d law b (set_in k) below bound.0)

      pub part_listed : {b : ℕ} → Memᴰ b (parts_of a) → Memᴰ (target d b (set_in k)) (agent_places (places d))
      part_listed {b} n = agent_listed (leads_on (Memᴰ.append_left _ (map_member (λ b. target d b (set_in k)) n))) (omega (arith, target_below n, (agent_led d m).1))

      pub part_before : {b : ℕ} → Memᴰ b (parts_of a) → target d b (set_in k) < k
      part_before {b} n = pair_before (target d b (set_in k)) k (target_below n)

      pub call_listed : {p : ℕ} → Memᴰ p (procedures_of a) → Memᴰ (pair (procedure_at p) (set_in k)) (procedure_places (places d))
      call_listed {p} n = procedure_listed (leads_on (Memᴰ.append_right (map (λ b. target d b (set_in k)) (parts_of a)) (map_member (λ p. pair (procedure_at p) (set_in k)) n))) (omega (arith, number_pair (procedure_at p) (set_in k) (set_bound k)))

    module _ (k : ℕ) (m : Memᴰ k (procedure_places (places d))) where
      root_below : number_in (target d (root_of d (number_in k - 1024)) (set_in k)) < 1024
      root_below =
          let high = (procedure_led d m).1 in
          let bound = stands_bound_agent d law (root_of d (number_in k - 1024)) (set_in k) (root (led_stands_procedure d law k (number_in k - 1024) (procedure_led d m).0 (omega arith))) in
          omega (arith, target_lower d law (root_of d (number_in k - 1024)) (set_in k) bound.1 bound.0, bound.1, draft_agents)

      pub root_listed : Memᴰ (target d (root_of d (number_in k - 1024)) (set_in k)) (agent_places (places d))
      root_listed = agent_listed (on (procedure_led d m).0 (subst⁻¹ (λ l. Memᴰ (target d (root_of d (number_in k - 1024)) (set_in k)) l) (leads_procedure d k (procedure_led d m).1) (Memᴰ.head refl))) root_below
