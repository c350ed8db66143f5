-- A plain score that fits is lawful.
--     agent_tokens, agent_parts, agent_calls, root_below      what its agents and roots name
--     conclusion_below, premises_below                        what its rules name
--     plain_lawful                                            the claim
--     Formed, plain_formed                                    its rules have no premise or two, if the draft's have
use mathlib.Core.Path.{◌≡◌, refl, ap, subst, subst⁻¹}
use mathlib.Core.List.Memᴰ
use mathlib.Core.List.{[], ◌∷◌, Memᴰ}
use mathlib.Core.Logic.{◌⊎◌, inr}
use Prim.Native.Nat.{ℕ, ◌+◌, ◌-◌, ◌<◌, ◌≤◌}
use native.Mathlib.Omega.{arith}
use lib.Dec.{eqb, lit<}
use lib.ListN.{length, get_or}
use borrow.Author.Tests.{eqb-false}
use Rattle.laws.proofs.Booleans.{by_test, either}
use Rattle.laws.proofs.Lists.{entry_member}
use Rattle.laws.proofs.Sets.{Within, on_cons, on_append}
use Rattle.tcc.specs.Closure.{Rule}
use Rattle.tcc.specs.Score.{tokens_of, parts_of, procedures_of}
use Rattle.tcc.specs.Score as plain
use Rattle.tcc.specs.Lawful.{Lawful}
use Rattle.tcc.specs.declared.Agent.{Agent}
use Rattle.tcc.specs.declared.Agent.TheVariants.{Skip, Abort, Tell, Parallel, When, Next, Unless, Call}
use Rattle.draft_language.specs.Draft.{Draft, draft_agent_at, root_of, as_when, LawfulDraft}
use Rattle.draft_language.specs.declared.DraftAgent.TheVariants.{Plain}
use Rattle.draft_pairs.specs.TokenSets.{with, members}
use Rattle.draft_pairs.specs.Pairs.{pair, number_in, set_in, index_of}
use Rattle.draft_plain.specs.Places.{procedure_at, target, places}
use Rattle.draft_plain.specs.Plain.{asks_for, asked_token, plain_of}
use Rattle.draft_plain.specs.Unchanged.{PlainLawful}
use Rattle.draft_pairs.proofs.TokenSets.{holds_member, member_holds, members_none, number_pair, set_bound}
use Rattle.draft_pairs.proofs.Rising.{index_below, index_order}
use Rattle.draft_plain.specs.Led.{first}
use Rattle.draft_plain.proofs.Copying.{PlacesFit}
use Rattle.draft_plain.proofs.PlainPairs.{written_tokens, agent_led, procedure_listed, part_listed, part_before, call_listed, root_listed}
use Rattle.draft_plain.proofs.AskedLaws.{with_holds, asked_listed, asked_token_below, asks_known, asked_known}
use Rattle.draft_plain.proofs.PlainScore.{agents_in, procedures_in, sets_in, score_in, place_of, agent_by, agents_rising, agents_length, roots_length, root_at, on_plain_agents, on_member_rules, Sizes, fits_sizes, places_fit}
use Rattle.draft_plain.proofs.PlainCalls.{plain_circles}

module _ (d : Draft) (law : LawfulDraft d) where
  module _ (k : ℕ) (m : Memᴰ k (agents_in d)) where
    asked_below : {a : Agent} → draft_agent_at d (number_in k) ≡ Plain a → {set : ℕ} → Memᴰ set (asks_for (set_in k) a) → (members set ≡ [] → ⊥) → asked_token d.tokens (sets_in d) set < (score_in d).tokens
    asked_below e {set} n some = asked_token_below d.tokens (sets_in d) set (asked_listed d m (subst⁻¹ (λ a. Memᴰ set (asks_for (set_in k) a)) (ap as_when e) n)) (asks_known d law k (agent_led d m).0 e set n) some

    next_below : {b : ℕ} → draft_agent_at d (number_in k) ≡ Plain (Next b) → (set_in k ≡ 0 → ⊥) → asked_token d.tokens (sets_in d) (set_in k) < (score_in d).tokens
    next_below e some = asked_below e (Memᴰ.head refl) (λ none. some (members_none (set_in k) (set_bound k) none))

    unless_below : {t b : ℕ} → draft_agent_at d (number_in k) ≡ Plain (Unless t b) → asked_token d.tokens (sets_in d) (with t (set_in k)) < (score_in d).tokens
    unless_below {t} {b} e =
        let h = written_tokens d law (number_in k) e t (Memᴰ.head refl) in
        let small : t < 256 = omega (arith, law.tokens_at_most) in
        asked_below e (Memᴰ.head refl) (λ none. Memᴰ.not-nil (subst (λ l. Memᴰ t l) none (holds_member (with t (set_in k)) small (with_holds t (set_in k)))))

    old_below : {a : Agent} → draft_agent_at d (number_in k) ≡ Plain a → Within (λ t. t < (score_in d).tokens) (tokens_of a)
    old_below e t n = omega (arith, written_tokens d law (number_in k) e t n)

    agent_tokens : (a : Agent) → draft_agent_at d (number_in k) ≡ Plain a → Within (λ t. t < (score_in d).tokens) (tokens_of (agent_by d (set_in k) a))
    agent_tokens Skip e = λ t n. elim n [ ]
    agent_tokens Abort e = λ t n. elim n [ ]
    agent_tokens (Tell t) e = old_below e
    agent_tokens (Parallel a b) e = λ t n. elim n [ ]
    agent_tokens (When t b) e = old_below e
    agent_tokens (Next b) e = by_test (λ a. Within (λ t. t < (score_in d).tokens) (tokens_of a)) (eqb (set_in k) 0) (λ q t n. elim n [ ]) (λ q. on_cons (next_below e (eqb-false (set_in k) 0 q)) (λ t n. elim n [ ]))
    agent_tokens (Unless t b) e = on_cons (unless_below e) (λ t n. elim n [ ])
    agent_tokens (Call p) e = λ t n. elim n [ ]

  module _ (fit : PlacesFit (places d)) where
    module _ (k : ℕ) (m : Memᴰ k (agents_in d)) where
      part_index : {a : Agent} → draft_agent_at d (number_in k) ≡ Plain a → Within (λ b. place_of d (set_in k) b < index_of k (agents_in d)) (parts_of a)
      part_index e b n = index_order (target d b (set_in k)) k (agents_in d) (agents_rising d) (part_listed d law fit k m e n) m (part_before d law fit k m e n)

      agent_parts : (a : Agent) → draft_agent_at d (number_in k) ≡ Plain a → Within (λ b. b < index_of k (agents_in d)) (parts_of (agent_by d (set_in k) a))
      agent_parts Skip e = λ b n. elim n [ ]
      agent_parts Abort e = λ b n. elim n [ ]
      agent_parts (Tell t) e = λ b n. elim n [ ]
      agent_parts (Parallel a b) e = on_cons (part_index e a (Memᴰ.head refl)) (on_cons (part_index e b (Memᴰ.tail (Memᴰ.head refl))) (λ b n. elim n [ ]))
      agent_parts (When t b) e = on_cons (part_index e b (Memᴰ.head refl)) (λ b n. elim n [ ])
      agent_parts (Next b) e =
          let body : Within (λ b. b < index_of k (agents_in d)) (place_of d (set_in k) b ∷ []) = on_cons (part_index e b (Memᴰ.head refl)) (λ b n. elim n [ ]) in
          either (λ a. Within (λ b. b < index_of k (agents_in d)) (parts_of a)) (eqb (set_in k) 0) body body
      agent_parts (Unless t b) e = on_cons (part_index e b (Memᴰ.head refl)) (λ b n. elim n [ ])
      agent_parts (Call p) e = λ b n. elim n [ ]

      agent_calls : (a : Agent) → draft_agent_at d (number_in k) ≡ Plain a → Within (λ p. p < length (score_in d).roots) (procedures_of (agent_by d (set_in k) a))
      agent_calls Skip e = λ p n. elim n [ ]
      agent_calls Abort e = λ p n. elim n [ ]
      agent_calls (Tell t) e = λ p n. elim n [ ]
      agent_calls (Parallel a b) e = λ p n. elim n [ ]
      agent_calls (When t b) e = λ p n. elim n [ ]
      agent_calls (Next b) e = either (λ a. Within (λ p. p < length (score_in d).roots) (procedures_of a)) (eqb (set_in k) 0) (λ p n. elim n [ ]) (λ p n. elim n [ ])
      agent_calls (Unless t b) e = λ p n. elim n [ ]
      agent_calls (Call p) e = on_cons (omega (arith, index_below (pair (procedure_at p) (set_in k)) (procedures_in d) (call_listed d law fit k m e (Memᴰ.head refl)), roots_length d)) (λ p n. elim n [ ])

    root_below : (p : ℕ) → p < length (score_in d).roots → plain.root_of (score_in d) p < length (score_in d).agents
    root_below p h =
        let lt : p < length (procedures_in d) = omega (arith, roots_length d) in
        let k = get_or (procedures_in d) p 0 in
        omega (arith, root_at d p lt, index_below (target d (root_of d (number_in k - 1024)) (set_in k)) (agents_in d) (root_listed d law fit k (entry_member (procedures_in d) p lt)), agents_length d)

    calls_known : (i p : ℕ) → Memᴰ p (procedures_of (plain.agent_at (score_in d) i)) → p < length (score_in d).roots
    calls_known = on_plain_agents d law (λ i a. Within (λ p. p < length (score_in d).roots) (procedures_of a)) (λ i p n. elim n [ ]) agent_calls

    start_listed : Memᴰ (pair (procedure_at 0) 0) (procedures_in d)
    start_listed = procedure_listed d law fit first (omega (arith, number_pair (procedure_at 0) 0 (lit< tt)))

    some_root : 1 ≤ length (score_in d).roots
    some_root = omega (arith, index_below (pair (procedure_at 0) 0) (procedures_in d) start_listed, roots_length d)

  conclusion_below : Within (λ r. r.conclusion < (score_in d).tokens) (score_in d).rules
  conclusion_below = on_append d.rules (λ r m. omega (arith, law.conclusions_known r m)) (on_member_rules (λ r. r.conclusion < (score_in d).tokens) d.tokens (sets_in d) (λ set m c n k l. l))

  premises_below : Within (λ r. Within (λ t. t < (score_in d).tokens) r.premises) (score_in d).rules
  premises_below = on_append d.rules (λ r m t n. omega (arith, law.premises_known r t m n)) (on_member_rules (λ r. Within (λ t. t < (score_in d).tokens) r.premises) d.tokens (sets_in d) each)
    where
      each : (set m c : ℕ) → Memᴰ set (sets_in d) → Memᴰ m (members set) → c < d.tokens + length (sets_in d) → Within (λ t. t < (score_in d).tokens) (m ∷ m ∷ [])
      each set m c n k l =
          let below : m < (score_in d).tokens = omega (arith, asked_known d law set n m (member_holds set k).1) in
          on_cons below (on_cons below (λ t k. elim k [ ]))

  lawful_by : Sizes (score_in d) → Lawful (score_in d)
  lawful_by sizes =
      let fit = places_fit d sizes in
      record {
        some_tokens = omega (arith, law.some_tokens);
        tokens_at_most = sizes.few_tokens;
        some_agents = omega (arith, root_below fit 0 (some_root fit));
        agents_at_most = sizes.few_agents;
        some_roots = some_root fit;
        roots_at_most = sizes.few_roots;
        rules_at_most = sizes.few_rules;
        ports_ordered = law.ports_ordered;
        ports_known = omega (arith, law.ports_known);
        tokens_known = on_plain_agents d law (λ i a. Within (λ t. t < (score_in d).tokens) (tokens_of a)) (λ i t n. elim n [ ]) agent_tokens;
        parts_lower = on_plain_agents d law (λ i a. Within (λ b. b < i) (parts_of a)) (λ i b n. elim n [ ]) (agent_parts fit);
        procedures_known = calls_known fit;
        roots_known = root_below fit;
        conclusions_known = conclusion_below;
        premises_known = λ r t m n. premises_below r m t n;
        no_circle = plain_circles d law fit (calls_known fit);
      }

pub plain_lawful : PlainLawful
unfolding plain_of
plain_lawful d law e = lawful_by d law (fits_sizes (score_in d) e)

-- no premise, or two
abbrev pub Formed : Rule ℕ → Type 0
Formed r = (r.premises ≡ []) ⊎ ((p : ℕ) × (q : ℕ) × (r.premises ≡ p ∷ q ∷ []))

pub plain_formed : (d : Draft) → Within Formed d.rules → Within Formed (plain_of d).rules
unfolding plain_of
plain_formed d formed = on_append d.rules formed (on_member_rules Formed d.tokens (sets_in d) (λ set m c n k l. inr (m, m, refl)))
