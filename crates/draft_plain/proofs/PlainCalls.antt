-- Unguarded calls of a plain score are calls of the draft with whens for watches.
--     target_leads       what a reference leads to leads to no call that the agent referred to does not lead to
--     Reads, Unguarded   what an agent of the plain score does unguarded, read in the draft
--     leads_back         what an agent of the plain score leads to, its agent of the draft leads to
--     reaches_back       and so for what a procedure reaches
--     plain_circles      no procedure of the plain score reaches itself
use mathlib.Core.Path.{◌≡◌, refl, sym, ap, subst, subst⁻¹, ◌∙◌}
use mathlib.Core.List.{Memᴰ}
use Prim.Native.Nat.{ℕ, zero, suc, ◌-◌, ◌^◌, ◌<◌}
use native.Mathlib.Nat.{not-suc-le-zero}
use native.Mathlib.Omega.{arith}
use lib.Dec.{eqb}
use lib.ListN.{length, get_or}
use Rattle.laws.proofs.Booleans.{either}
use Rattle.laws.proofs.Lists.{entry_member}
use Rattle.laws.proofs.Sets.{Within}
use Rattle.tcc.specs.Score.{agent_at, tokens_of, parts_of}
use Rattle.tcc.specs.Score as plain
use Rattle.tcc.specs.Unguarded.{Leads, calls, by_first, by_second, by_body, Reaches, one, more}
use Rattle.tcc.specs.declared.Agent.{Agent}
use Rattle.tcc.specs.declared.Agent.TheVariants.{Skip, Abort, Tell, Parallel, When, Next, Unless, Call}
use Rattle.tcc.proofs.Multiset.{part_lower}
use Rattle.tcc.proofs.Unguarded.{CallsKnown, leads_known}
use Rattle.draft_language.specs.Draft.{Draft, draft_agent_at, root_of, as_when, whens, LawfulDraft}
use Rattle.draft_language.specs.declared.DraftAgent.{DraftAgent}
use Rattle.draft_language.specs.declared.DraftAgent.TheVariants.{Plain, Watch}
use Rattle.draft_pairs.specs.TokenSets.{with}
use Rattle.draft_pairs.specs.Pairs.{pair, number_in, set_in, index_of}
use Rattle.draft_plain.specs.Places.{procedure_at, target, places}
use Rattle.draft_pairs.proofs.TokenSets.{with_bound, number_pair, set_bound}
use Rattle.draft_pairs.proofs.Rising.{index_at}
use Rattle.draft_plain.proofs.Places.{target_plain, target_watch}
use Rattle.draft_plain.proofs.Copying.{PlacesFit}
use Rattle.draft_plain.proofs.PlainPairs.{when_at, led_procedure, procedure_led, part_listed, call_listed, root_listed}
use Rattle.draft_plain.proofs.PlainScore.{agents_in, procedures_in, score_in, place_of, agent_by, roots_length, root_at, on_plain_agents}

module _ (d : Draft) (law : LawfulDraft d) where
  target_leads : (n i set : ℕ) {q : ℕ} → i < n → set < 2 ^ 256 → Leads (whens d) (number_in (target d i set)) q → Leads (whens d) i q
  target_leads zero i set h bound l = absurd (not-suc-le-zero h)
  target_leads (suc n) i set {q} h bound l = go (draft_agent_at d i) refl (λ j s. target_leads n j s {q = q})
    where
      go : (w : DraftAgent) → draft_agent_at d i ≡ w → ((j s : ℕ) → j < n → s < 2 ^ 256 → Leads (whens d) (number_in (target d j s)) q → Leads (whens d) j q) → Leads (whens d) i q
      go (Plain a) e on = subst (λ j. Leads (whens d) j q) (ap number_in (target_plain d i set a e) ∙ number_pair i set bound) l
      go (Watch t b) e on =
          let written : agent_at (whens d) i ≡ When t b = when_at d i ∙ ap as_when e in
          let lower = part_lower (whens d) law i written b (Memᴰ.head refl) in
          let known = law.tokens_known i t (subst⁻¹ (λ a. Memᴰ t (tokens_of a)) written (Memᴰ.head refl)) in
          by_body written (on b (with t set) (omega arith) (with_bound 256 t set (omega (arith, law.tokens_at_most)) bound) (subst (λ k. Leads (whens d) (number_in k) q) (target_watch d law i set t b e) l))

  -- the agent and the procedure of the draft that a plain agent and a plain procedure are of
  abbrev agent_of : ℕ → ℕ
  agent_of i = number_in (get_or (agents_in d) i 0)

  abbrev procedure_of : ℕ → ℕ
  procedure_of q = number_in (get_or (procedures_in d) q 0) - 1024

  -- a reference to plain agent a is the draft's to x
  abbrev Reads : ℕ → ℕ → Type 0
  Reads a x = (q : ℕ) → Leads (whens d) (agent_of a) q → Leads (whens d) x q

  abbrev Unguarded : ℕ → Agent → Type 0
  Unguarded i Skip = Unit {0}
  Unguarded i Abort = Unit {0}
  Unguarded i (Tell t) = Unit {0}
  Unguarded i (Parallel a b) = (x : ℕ) × (y : ℕ) × (agent_at (whens d) i ≡ Parallel x y) × Reads a x × Reads b y
  Unguarded i (When t b) = (x : ℕ) × (agent_at (whens d) i ≡ When t x) × Reads b x
  Unguarded i (Next b) = Unit {0}
  Unguarded i (Unless t b) = Unit {0}
  Unguarded i (Call q) = agent_at (whens d) i ≡ Call (procedure_of q)

  module _ (fit : PlacesFit (places d)) where
    target_reads : (b set : ℕ) → set < 2 ^ 256 → Memᴰ (target d b set) (agents_in d) → Reads (place_of d set b) b
    target_reads b set bound m q l = target_leads (suc b) b set (omega arith) bound (subst (λ k. Leads (whens d) (number_in k) q) (index_at (target d b set) (agents_in d) m) l)

    module _ (k : ℕ) (m : Memᴰ k (agents_in d)) where
      part_reads : {a : Agent} → draft_agent_at d (number_in k) ≡ Plain a → Within (λ b. Reads (place_of d (set_in k) b) b) (parts_of a)
      part_reads e b n = target_reads b (set_in k) (set_bound k) (part_listed d law fit k m e n)

      call_read : {p : ℕ} → draft_agent_at d (number_in k) ≡ Plain (Call p) → procedure_of (index_of (pair (procedure_at p) (set_in k)) (procedures_in d)) ≡ p
      call_read {p} e =
          let at = index_at (pair (procedure_at p) (set_in k)) (procedures_in d) (call_listed d law fit k m e (Memᴰ.head refl)) in
          let number = ap number_in at ∙ number_pair (procedure_at p) (set_in k) (set_bound k) in
          omega arith

      unguarded : (a : Agent) → draft_agent_at d (number_in k) ≡ Plain a → Unguarded (number_in k) (agent_by d (set_in k) a)
      unguarded Skip e = tt
      unguarded Abort e = tt
      unguarded (Tell t) e = tt
      unguarded (Parallel a b) e = (a, b, when_at d (number_in k) ∙ ap as_when e, part_reads e a (Memᴰ.head refl), part_reads e b (Memᴰ.tail (Memᴰ.head refl)))
      unguarded (When t b) e = (b, when_at d (number_in k) ∙ ap as_when e, part_reads e b (Memᴰ.head refl))
      unguarded (Next b) e = either (Unguarded (number_in k)) (eqb (set_in k) 0) tt tt
      unguarded (Unless t b) e = tt
      unguarded (Call p) e = when_at d (number_in k) ∙ ap as_when e ∙ ap Call (sym (call_read e))

    unguarded_at : (i : ℕ) → Unguarded (agent_of i) (agent_at (score_in d) i)
    unguarded_at = on_plain_agents d law (λ i a. Unguarded (agent_of i) a) (λ i. tt) (λ k m a e. subst⁻¹ (λ j. Unguarded (number_in j) (agent_by d (set_in k) a)) (index_at k (agents_in d) m) (unguarded k m a e))

    leads_back : {i q : ℕ} → Leads (score_in d) i q → Leads (whens d) (agent_of i) (procedure_of q)
    leads_back (calls {i = i} e) = calls (subst (Unguarded (agent_of i)) e (unguarded_at i))
    leads_back (by_first {i = i} e l) = let (x, y, is, reads, other) = subst (Unguarded (agent_of i)) e (unguarded_at i) in by_first is (reads _ (leads_back l))
    leads_back (by_second {i = i} e l) = let (x, y, is, other, reads) = subst (Unguarded (agent_of i)) e (unguarded_at i) in by_second is (reads _ (leads_back l))
    leads_back (by_body {i = i} e l) = let (x, is, reads) = subst (Unguarded (agent_of i)) e (unguarded_at i) in by_body is (reads _ (leads_back l))

    root_back : {p q : ℕ} → p < length (score_in d).roots → Leads (score_in d) (plain.root_of (score_in d) p) q → Leads (whens d) (root_of d (procedure_of p)) (procedure_of q)
    root_back {p} {q} h l =
        let k = get_or (procedures_in d) p 0 in
        let lt : p < length (procedures_in d) = omega (arith, roots_length d) in
        target_reads (root_of d (procedure_of p)) (set_in k) (set_bound k) (root_listed d law fit k (entry_member (procedures_in d) p lt)) (procedure_of q) (subst (λ i. Leads (whens d) (agent_of i) (procedure_of q)) (root_at d p lt) (leads_back l))

    reaches_back : CallsKnown (score_in d) → {p q : ℕ} → p < length (score_in d).roots → Reaches (score_in d) p q → Reaches (whens d) (procedure_of p) (procedure_of q)
    reaches_back known h (one l) = one (root_back h l)
    reaches_back known h (more l r) = more (root_back h l) (reaches_back known (leads_known known l) r)

    pub plain_circles : CallsKnown (score_in d) → (p : ℕ) → p < length (score_in d).roots → Reaches (score_in d) p p → ⊥
    plain_circles known p h r =
        let lt : p < length (procedures_in d) = omega (arith, roots_length d) in
        let (led, high) = procedure_led d (entry_member (procedures_in d) p lt) in
        let (q, below, is) = led_procedure d law led high in
        law.no_circle (procedure_of p) (omega arith) (reaches_back known h r)
