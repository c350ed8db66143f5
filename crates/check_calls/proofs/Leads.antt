-- What an agent leads to, by the agent alone.
--     leads_inverse     what leads on from an agent, read off the agent
--     leads_exact       an agent leads to what the sets of the agents below it say
use mathlib.Core.Path.{◌≡◌, refl, subst, subst⁻¹}
use mathlib.Core.Bool.{Bool, true, false, ◌||◌, or-true, false≢true}
use mathlib.Core.List.{List, Memᴰ}
use mathlib.Core.Logic.{◌⊎◌, inl, inr, ⊎_elim}
use Prim.Native.Nat.{ℕ}
use borrow.Author.Tests.{eqb-true, eq-eqb}
use lib.ListN.{get_or}
use Rattle.tcc.specs.Score.{Score, agent_at, parts_of}
use Rattle.tcc.specs.Unguarded.{Leads, calls, by_first, by_second, by_body}
use Rattle.tcc.specs.declared.Agent.{Agent}
use Rattle.tcc.specs.declared.Agent.TheVariants.{Skip, Abort, Tell, Parallel, When, Next, Unless, Call}
use Rattle.check_calls.specs.Calls.{Exactly, in_set, leads_by}

abbrev LeadsOn : Score → Agent → ℕ → Type 0
LeadsOn sc Skip q = ⊥
LeadsOn sc Abort q = ⊥
LeadsOn sc (Tell t) q = ⊥
LeadsOn sc (Parallel a b) q = Leads sc a q ⊎ Leads sc b q
LeadsOn sc (When t b) q = Leads sc b q
LeadsOn sc (Next b) q = ⊥
LeadsOn sc (Unless t b) q = ⊥
LeadsOn sc (Call p) q = p ≡ q

leads_inverse : (sc : Score) {i q : ℕ} → Leads sc i q → LeadsOn sc (agent_at sc i) q
leads_inverse sc (calls {p = p} e) = subst⁻¹ (λ a. LeadsOn sc a p) e refl
leads_inverse sc (by_first {p = q} e l) = subst⁻¹ (λ a. LeadsOn sc a q) e (inl l)
leads_inverse sc (by_second {p = q} e l) = subst⁻¹ (λ a. LeadsOn sc a q) e (inr l)
leads_inverse sc (by_body {p = q} e l) = subst⁻¹ (λ a. LeadsOn sc a q) e l

or_either : (a b : Bool) → (a || b) ≡ true → (a ≡ true) ⊎ (b ≡ true)
or_either true b e = inl refl
or_either false b e = inr e

module _ (sc : Score) (i q : ℕ) (sets : List ℕ) where
  marked : (a : Agent) → ((b : ℕ) → Memᴰ b (parts_of a) → Leads sc b q → in_set (get_or sets b 0) q ≡ true) → LeadsOn sc a q → leads_by a sets q ≡ true
  marked Skip below l = absurd l
  marked Abort below l = absurd l
  marked (Tell t) below l = absurd l
  marked (Parallel a b) below (inl l) = rw (below a (Memᴰ.head refl) l)
  marked (Parallel a b) below (inr l) = rw (below b (Memᴰ.tail (Memᴰ.head refl)) l) (or-true (in_set (get_or sets a 0) q))
  marked (When t b) below l = below b (Memᴰ.head refl) l
  marked (Next b) below l = absurd l
  marked (Unless t b) below l = absurd l
  marked (Call p) below l = eq-eqb p q l

  leads : (a : Agent) → agent_at sc i ≡ a → ((b : ℕ) → Memᴰ b (parts_of a) → in_set (get_or sets b 0) q ≡ true → Leads sc b q) → leads_by a sets q ≡ true → Leads sc i q
  leads Skip e below t = absurd (false≢true t)
  leads Abort e below t = absurd (false≢true t)
  leads (Tell u) e below t = absurd (false≢true t)
  leads (Parallel a b) e below t =
      ⊎_elim
      (λ u. by_first e (below a (Memᴰ.head refl) u))
      (λ u. by_second e (below b (Memᴰ.tail (Memᴰ.head refl)) u))
      (or_either (in_set (get_or sets a 0) q) (in_set (get_or sets b 0) q) t)
  leads (When u b) e below t = by_body e (below b (Memᴰ.head refl) t)
  leads (Next b) e below t = absurd (false≢true t)
  leads (Unless u b) e below t = absurd (false≢true t)
  leads (Call p) e below t = calls (subst (λ r. agent_at sc i ≡ Call r) (eqb-true p q t) e)

  pub leads_exact : ((b : ℕ) → Memᴰ b (parts_of (agent_at sc i)) → Exactly (in_set (get_or sets b 0) q) (Leads sc b q)) → Exactly (leads_by (agent_at sc i) sets q) (Leads sc i q)
  leads_exact below = (
    leads (agent_at sc i) refl (λ b m. (below b m).0),
    λ l. marked (agent_at sc i) (λ b m. (below b m).1) (leads_inverse sc l),
  )
