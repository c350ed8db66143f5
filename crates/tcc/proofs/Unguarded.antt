-- What unguarded calls lead to: the computed set of what an agent meets, held against the relations.
--     Comes                            an agent leads to a call of a procedure, or to one of a procedure that reaches it
--     comes_reaches, reaches_comes     from the root of a procedure that is to reach
--     comes_on                         reaching further
--     comes_first, comes_second, comes_body, comes_call     what an agent comes to by its halves, its body, its call
--     CallsKnown, leads_known          every procedure that an agent calls is known; so is one that is led to
--     ways_member, on_ways             the members of `ways_from`
--     met_decides                      the test of what is met decides
--     first_met, second_met, body_met, call_met, root_met     what a set of what is met holds, closed under the rules
--     met_comes, comes_met             a procedure is met from an agent if and only if the agent comes to it
--     circular_exact                   `circular` says whether a procedure reaches itself
--     reaches_call                     whoever reaches a procedure calls one unguarded
--     call_free                        a procedure that calls none unguarded lies on no circle
use mathlib.Core.Path.{◌≡◌, refl, sym, ap, subst}
use mathlib.Core.Bool.{Bool, true, false}
use mathlib.Core.List.{List, [], ◌∷◌, map, Memᴰ}
use mathlib.Core.Logic.{◌⊎◌, inl, inr}
use Prim.Native.Nat.{ℕ, zero, suc, ◌+◌, ◌<◌}
use native.Mathlib.Omega.{arith}
use lib.ListN.{length, get_or}
use borrow.Author.Tests.{eqb-true, eq-eqb}
use Rattle.laws.specs.Sets.{below}
use Rattle.laws.proofs.Booleans.{true_is_false}
use Rattle.laws.proofs.Sets.{Within, on_cons, on_append, on_map, map_member, lt_below}
use Rattle.tcc.specs.Closure.{Rule}
use Rattle.tcc.specs.Score.{Score, agent_at, root_of, procedures_of}
use Rattle.tcc.specs.Unguarded.{Leads, calls, by_first, by_second, by_body, Reaches, one, more, Met, agent, procedure, same_met, from, ways, ways_from, way_rules, met_from, circular}
use Rattle.tcc.specs.declared.Agent.{Agent}
use Rattle.tcc.specs.declared.Agent.TheVariants.{Skip, Abort, Tell, Parallel, When, Next, Unless, Call}
use Rattle.tcc.proofs.Closure.{Decides, Passes, Follows, any_same, same_any, close_above, close_closed, close_least}

pub data Comes (sc : Score) (i : ℕ) : ℕ → Type 0 where
  directly : {q : ℕ} → Leads sc i q → Comes sc i q
  through : {r q : ℕ} → Leads sc i r → Reaches sc r q → Comes sc i q

reaches_trans : {sc : Score} {p q r : ℕ} → Reaches sc p q → Reaches sc q r → Reaches sc p r
reaches_trans (one l) g = more l g
reaches_trans (more l h) g = more l (reaches_trans h g)

pub comes_reaches : (sc : Score) {p q : ℕ} → Comes sc (root_of sc p) q → Reaches sc p q
comes_reaches sc (directly l) = one l
comes_reaches sc (through l r) = more l r

pub reaches_comes : {sc : Score} {p q : ℕ} → Reaches sc p q → Comes sc (root_of sc p) q
reaches_comes (one l) = directly l
reaches_comes (more l r) = through l r

pub comes_on : {sc : Score} {i p q : ℕ} → Comes sc i p → Reaches sc p q → Comes sc i q
comes_on (directly l) g = through l g
comes_on (through l r) g = through l (reaches_trans r g)

comes_as : {sc : Score} {i j q : ℕ} → ((r : ℕ) → Leads sc j r → Leads sc i r) → Comes sc j q → Comes sc i q
comes_as f (directly l) = directly (f _ l)
comes_as f (through l r) = through (f _ l) r

module _ (sc : Score) (i : ℕ) where
  pub comes_first : {a b q : ℕ} → agent_at sc i ≡ Parallel a b → Comes sc a q → Comes sc i q
  comes_first e = comes_as (λ r l. by_first e l)

  pub comes_second : {a b q : ℕ} → agent_at sc i ≡ Parallel a b → Comes sc b q → Comes sc i q
  comes_second e = comes_as (λ r l. by_second e l)

  pub comes_body : {t b q : ℕ} → agent_at sc i ≡ When t b → Comes sc b q → Comes sc i q
  comes_body e = comes_as (λ r l. by_body e l)

  pub comes_call : {p : ℕ} → agent_at sc i ≡ Call p → Comes sc i p
  comes_call e = directly (calls e)

pub reaches_call : {sc : Score} {p q : ℕ} → Reaches sc p q → (r : ℕ) × Leads sc (root_of sc p) r
reaches_call (one {q = q} l) = (q, l)
reaches_call (more {q = q} l r) = (q, l)

-- every procedure that an agent calls is known
abbrev pub CallsKnown : Score → Type 0
CallsKnown sc = (i p : ℕ) → Memᴰ p (procedures_of (agent_at sc i)) → p < length sc.roots

pub leads_known : {sc : Score} → CallsKnown sc → {i q : ℕ} → Leads sc i q → q < length sc.roots
leads_known known (calls {i = i} {p = p} e) = known i p (subst (λ a. Memᴰ p (procedures_of a)) (sym e) (mathlib.Core.List.Memᴰ.head refl))
leads_known known (by_first e l) = leads_known known l
leads_known known (by_second e l) = leads_known known l
leads_known known (by_body e l) = leads_known known l

ways_member : (r : Rule Met) (n i j : ℕ) (l : List Agent) → j ≡ n + i → Memᴰ r (ways j (get_or l i Skip)) → Memᴰ r (ways_from n l)
ways_member r n i j [] e m = elim m [ ]
ways_member r n zero j (a ∷ l) e m = let q : j ≡ n = omega arith in mathlib.Core.List.Memᴰ.append_left (ways_from (suc n) l) (rw q at m)
ways_member r n (suc i) j (a ∷ l) e m = mathlib.Core.List.Memᴰ.append_right (ways n a) (ways_member r (suc n) i j l (omega arith) m)

on_ways : {P : Rule Met → Type 0} (n : ℕ) (l : List Agent) → ((i j : ℕ) → j ≡ n + i → (r : Rule Met) → Memᴰ r (ways j (get_or l i Skip)) → P r) → (r : Rule Met) → Memᴰ r (ways_from n l) → P r
on_ways n [] h r m = elim m [ ]
on_ways {P} n (a ∷ l) h r m = go (mathlib.Core.List.Memᴰ.append_cases (ways n a) m) (on_ways {P = P} (suc n) l (λ i j e. h (suc i) j (omega arith)) r)
  where
    go : Memᴰ r (ways n a) ⊎ Memᴰ r (ways_from (suc n) l) → (Memᴰ r (ways_from (suc n) l) → P r) → P r
    go (inl m') rest = h zero n (omega arith) r m'
    go (inr m') rest = rest m'

pub met_decides : Decides same_met
met_decides (agent i) (agent j) = (λ e. ap agent (eqb-true i j e), λ e. eq-eqb i j (cc))
met_decides (agent i) (procedure q) = (λ e. absurd (true_is_false e refl), λ e. cc)
met_decides (procedure p) (agent j) = (λ e. absurd (true_is_false e refl), λ e. cc)
met_decides (procedure p) (procedure q) = (λ e. ap procedure (eqb-true p q e), λ e. eq-eqb p q (cc))

-- a set of what is met that is closed under the score's rules
module _ (sc : Score) (M : Met → Type 0) (closed : Follows M (way_rules sc)) where
  way_met : (i : ℕ) {a : Agent} (r : Rule Met) → agent_at sc i ≡ a → Memᴰ r (ways i a) → Within M r.premises → M r.conclusion
  way_met i r e m = closed r (mathlib.Core.List.Memᴰ.append_left (map (λ p. from (procedure p) (agent (root_of sc p))) (below (length sc.roots))) (ways_member r zero i i sc.agents (omega arith) (subst (λ a. Memᴰ r (ways i a)) (sym e) m)))

  first_met : (i : ℕ) {a b : ℕ} → agent_at sc i ≡ Parallel a b → M (agent i) → M (agent a)
  first_met i {a} {b} e h = way_met i (from (agent i) (agent a)) e (mathlib.Core.List.Memᴰ.head refl) (on_cons h (λ x m. elim m [ ]))

  second_met : (i : ℕ) {a b : ℕ} → agent_at sc i ≡ Parallel a b → M (agent i) → M (agent b)
  second_met i {a} {b} e h = way_met i (from (agent i) (agent b)) e (mathlib.Core.List.Memᴰ.tail (mathlib.Core.List.Memᴰ.head refl)) (on_cons h (λ x m. elim m [ ]))

  body_met : (i : ℕ) {t b : ℕ} → agent_at sc i ≡ When t b → M (agent i) → M (agent b)
  body_met i {t} {b} e h =
      let only : Memᴰ (from (agent i) (agent b)) (from (agent i) (agent b) ∷ []) = mathlib.Core.List.Memᴰ.head refl in
      way_met i (from (agent i) (agent b)) e only (on_cons h (λ x m. elim m [ ]))

  call_met : (i : ℕ) {p : ℕ} → agent_at sc i ≡ Call p → M (agent i) → M (procedure p)
  call_met i {p} e h = way_met i (from (agent i) (procedure p)) e (mathlib.Core.List.Memᴰ.head refl) (on_cons h (λ x m. elim m [ ]))

  leads_met : {i q : ℕ} → M (agent i) → Leads sc i q → M (procedure q)
  leads_met h (calls {i = i} e) = call_met i e h
  leads_met h (by_first {i = i} e l) = leads_met (first_met i e h) l
  leads_met h (by_second {i = i} e l) = leads_met (second_met i e h) l
  leads_met h (by_body {i = i} e l) = leads_met (body_met i e h) l

  root_met : (p : ℕ) → p < length sc.roots → M (procedure p) → M (agent (root_of sc p))
  root_met p h m = closed (from (procedure p) (agent (root_of sc p))) (mathlib.Core.List.Memᴰ.append_right (ways_from zero sc.agents) (map_member (λ p. from (procedure p) (agent (root_of sc p))) (lt_below (length sc.roots) h))) (on_cons m (λ x n. elim n [ ]))

  module _ (known : CallsKnown sc) where
    reaches_met : {p q : ℕ} → p < length sc.roots → M (procedure p) → Reaches sc p q → M (procedure q)
    reaches_met {p} h m (one l) = leads_met (root_met p h m) l
    reaches_met {p} h m (more l r) = reaches_met (leads_known known l) (leads_met (root_met p h m) l) r

    comes_closed : {i q : ℕ} → M (agent i) → Comes sc i q → M (procedure q)
    comes_closed m (directly l) = leads_met m l
    comes_closed m (through l r) = reaches_met (leads_known known l) (leads_met m l) r

-- what is met from agent i comes of it: another agent has nothing that i does not come to
abbrev MetAs : Score → ℕ → Met → Type 0
MetAs sc i (agent j) = (q : ℕ) → Comes sc j q → Comes sc i q
MetAs sc i (procedure p) = Comes sc i p

module _ (sc : Score) (i : ℕ) where
  met_ways : (j : ℕ) (a : Agent) → agent_at sc j ≡ a → Follows (MetAs sc i) (ways j a)
  met_ways j Skip e = λ r m. elim m [ ]
  met_ways j Abort e = λ r m. elim m [ ]
  met_ways j (Tell t) e = λ r m. elim m [ ]
  met_ways j (Parallel a b) e = on_cons (λ h q c. h (agent j) (mathlib.Core.List.Memᴰ.head refl) q (comes_first sc j e c)) (on_cons (λ h q c. h (agent j) (mathlib.Core.List.Memᴰ.head refl) q (comes_second sc j e c)) (λ r m. elim m [ ]))
  met_ways j (When t b) e = on_cons (λ h q c. h (agent j) (mathlib.Core.List.Memᴰ.head refl) q (comes_body sc j e c)) (λ r m. elim m [ ])
  met_ways j (Next b) e = λ r m. elim m [ ]
  met_ways j (Unless t b) e = λ r m. elim m [ ]
  met_ways j (Call p) e = on_cons (λ h. h (agent j) (mathlib.Core.List.Memᴰ.head refl) p (comes_call sc j e)) (λ r m. elim m [ ])

  met_follows : Follows (MetAs sc i) (way_rules sc)
  met_follows = on_append (ways_from zero sc.agents) (on_ways {P = Passes (MetAs sc i)} zero sc.agents (λ k j e. rw (agents_at k j e) (met_ways j (agent_at sc j) refl))) (on_map (Passes (MetAs sc i)) (λ p. from (procedure p) (agent (root_of sc p))) (below (length sc.roots)) (λ p m h q c. comes_on (h (procedure p) (mathlib.Core.List.Memᴰ.head refl)) (comes_reaches sc c)))
    where
      agents_at : (k j : ℕ) → j ≡ 0 + k → k ≡ j
      agents_at k j e = omega arith

  pub met_comes : {q : ℕ} → Memᴰ (procedure q) (met_from sc i) → Comes sc i q
  unfolding met_from
  met_comes {q} m = close_least same_met met_decides (MetAs sc i) (way_rules sc) (agent i ∷ []) met_follows (on_cons (λ q c. c) (λ x n. elim n [ ])) (procedure q) m

module _ (sc : Score) (known : CallsKnown sc) where
  pub comes_met : {i q : ℕ} → Comes sc i q → Memᴰ (procedure q) (met_from sc i)
  unfolding met_from
  comes_met {i} c = comes_closed sc (λ x. Memᴰ x (met_from sc i)) (close_closed same_met met_decides (way_rules sc) (agent i ∷ [])) known (close_above same_met (way_rules sc) (agent i ∷ []) (agent i) (mathlib.Core.List.Memᴰ.head refl)) c

  pub circular_exact : (p : ℕ) → (circular sc p ≡ true → Reaches sc p p) × (Reaches sc p p → circular sc p ≡ true)
  unfolding circular
  circular_exact p = (λ e. comes_reaches sc (met_comes sc (root_of sc p) (any_same same_met met_decides (procedure p) (met_from sc (root_of sc p)) e)), λ r. same_any same_met met_decides (comes_met (reaches_comes r)))

  pub call_free : (p : ℕ) → ((q : ℕ) → Leads sc (root_of sc p) q → ⊥) → circular sc p ≡ false
  call_free p none = go (circular sc p) refl
    where
      go : (b : Bool) → circular sc p ≡ b → circular sc p ≡ false
      go true e = let call = reaches_call ((circular_exact p).0 e) in absurd (none call.0 call.1)
      go false e = e
