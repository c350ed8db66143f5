-- The plain score of a draft, by its pairs.
--     Sizes, fits_sizes                   the four counts of a score that fits
--     on_member_rules                     what holds of each rule from a member holds of the new rules
--     agents_in, procedures_in, sets_in   the pairs of agents, the pairs of procedures, the asked sets
--     score_in                            the plain score that they make
--     place_of, agent_by, root_by          where a reference leads; the agent of a pair; the root of a pair's procedure
--     agents_rising, procedures_rising    the pairs rise
--     agents_length, roots_length         as many agents and roots as pairs
--     places_fit                          so the pairs of a score that fits do
--     root_at                             the root of a procedure is its pair's
--     on_plain_agents                     what holds of a skip and of the agent of each pair holds of each plain agent
use mathlib.Core.Path.{◌≡◌, refl, subst, subst⁻¹}
use mathlib.Core.Bool.{true}
use mathlib.Core.List.{List, [], ◌∷◌, map, Memᴰ}
use mathlib.Core.Logic.{by_cases}
use Prim.Native.Nat.{ℕ, suc, ◌+◌, ◌-◌, ◌<◌, ◌≤◌}
use native.Mathlib.Omega.{arith}
use native.Mathlib.Decide.{dec_lt}
use lib.ListN.{length, get_or, length-map, get_or-eq_default}
use borrow.Author.Tests.{leb-true}
use Rattle.laws.specs.Rising.{Rising}
use Rattle.laws.proofs.Booleans.{and_both}
use Rattle.laws.proofs.Lists.{entry_member, map_at}
use Rattle.laws.proofs.Sets.{Within, on_append, on_map}
use Rattle.laws.proofs.Rising.{rising_keep}
use Rattle.tcc.specs.Closure.{Rule}
use Rattle.tcc.specs.Score.{Score, agent_at}
use Rattle.tcc.specs.Score as plain
use Rattle.tcc.specs.declared.Agent.{Agent}
use Rattle.tcc.specs.declared.Agent.TheVariants.{Skip}
use Rattle.draft_language.specs.Draft.{Draft, draft_agent_at, root_of, as_when, LawfulDraft}
use Rattle.draft_language.specs.declared.DraftAgent.TheVariants.{Plain}
use Rattle.draft_pairs.specs.TokenSets.{members}
use Rattle.draft_pairs.specs.Pairs.{number_in, set_in, index_of}
use Rattle.draft_plain.specs.Places.{places, agent_places, procedure_places}
use Rattle.draft_plain.specs.Plain.{agent_in, asked_sets, member_rules, stands_at, plain_agent, plain_by, fits}
use Rattle.draft_pairs.proofs.Rising.{at_index}
use Rattle.draft_plain.proofs.Copying.{PlacesFit, places_rising}
use Rattle.draft_plain.proofs.PlainPairs.{led_agent, agent_led}

pub record Sizes (sc : Score) : Type 0 where
  pub few_tokens : sc.tokens ≤ 256
  pub few_agents : length sc.agents ≤ 1024
  pub few_roots : length sc.roots ≤ 64
  pub few_rules : length sc.rules ≤ 256

pub fits_sizes : (sc : Score) → fits sc ≡ true → Sizes sc
fits_sizes sc e =
    let (three, rules) = and_both _ _ e in
    let (two, roots) = and_both _ _ three in
    let (tokens, agents) = and_both _ _ two in
    record {
      few_tokens = leb-true sc.tokens 256 tokens;
      few_agents = leb-true (length sc.agents) 1024 agents;
      few_roots = leb-true (length sc.roots) 64 roots;
      few_rules = leb-true (length sc.rules) 256 rules;
    }

pub on_member_rules : (P : Rule ℕ → Type 0) (u : ℕ) (sets : List ℕ) → ((set m c : ℕ) → Memᴰ set sets → Memᴰ m (members set) → c < u + length sets → P (record { premises = m ∷ m ∷ []; conclusion = c })) → Within P (member_rules u sets)
on_member_rules P u [] h = λ r m. elim m [ ]
on_member_rules P u (set ∷ sets) h =
    on_append (map (λ m. record { premises = m ∷ m ∷ []; conclusion = u }) (members set))
    (on_map P (λ m. record { premises = m ∷ m ∷ []; conclusion = u }) (members set) (λ m n. h set m u (Memᴰ.head refl) n (omega arith)))
    (on_member_rules P (suc u) sets (λ s m c n k l. h s m c (Memᴰ.tail n) k (omega arith)))

module _ (d : Draft) where
  abbrev pub agents_in : List ℕ
  agents_in = agent_places (places d)

  abbrev pub procedures_in : List ℕ
  procedures_in = procedure_places (places d)

  abbrev pub sets_in : List ℕ
  sets_in = asked_sets d agents_in

  abbrev pub score_in : Score
  score_in = plain_by d agents_in procedures_in sets_in

  abbrev pub place_of : ℕ → ℕ → ℕ
  place_of = stands_at d agents_in procedures_in sets_in

  abbrev pub agent_by : ℕ → Agent → Agent
  agent_by = plain_agent d agents_in procedures_in sets_in

  abbrev pub root_by : ℕ → ℕ
  root_by k = place_of (set_in k) (root_of d (number_in k - 1024))

  pub agents_rising : Rising agents_in
  agents_rising = rising_keep _ (places d) (places_rising d)

  pub procedures_rising : Rising procedures_in
  procedures_rising = rising_keep _ (places d) (places_rising d)

  pub agents_length : length score_in.agents ≡ length agents_in
  agents_length = length-map agents_in (λ k. agent_by (set_in k) (agent_in d k))

  pub roots_length : length score_in.roots ≡ length procedures_in
  roots_length = length-map procedures_in root_by

  pub places_fit : Sizes score_in → PlacesFit (places d)
  places_fit sizes = record { agents_fit = omega (arith, sizes.few_agents, agents_length); procedures_fit = omega (arith, sizes.few_roots, roots_length) }

  pub root_at : (p : ℕ) → p < length procedures_in → plain.root_of score_in p ≡ root_by (get_or procedures_in p 0)
  root_at p h = map_at root_by procedures_in p 0 0 h

  pub on_plain_agents : LawfulDraft d → (P : ℕ → Agent → Type 0) → ((i : ℕ) → P i Skip) → ((k : ℕ) → Memᴰ k agents_in → (a : Agent) → draft_agent_at d (number_in k) ≡ Plain a → P (index_of k agents_in) (agent_by (set_in k) a)) → (i : ℕ) → P i (agent_at score_in i)
  on_plain_agents law P past each i = by_cases (dec_lt i (length agents_in)) listed (λ h. subst⁻¹ (P i) (get_or-eq_default score_in.agents Skip (omega (arith, agents_length))) (past i))
    where
      listed : i < length agents_in → P i (agent_at score_in i)
      listed h =
          let k = get_or agents_in i 0 in
          let m = entry_member agents_in i h in
          let (led, low) = agent_led d m in
          let known = led_agent d law led low in
          let there : P (index_of k agents_in) (agent_by (set_in k) (agent_in d k)) = subst⁻¹ (λ w. P (index_of k agents_in) (agent_by (set_in k) (as_when w))) known.is_written (each k m known.written known.is_written) in
          subst⁻¹ (P i) (map_at (λ j. agent_by (set_in j) (agent_in d j)) agents_in i 0 Skip h) (subst (λ j. P j (agent_by (set_in k) (agent_in d k))) (at_index agents_in i agents_rising h) there)
