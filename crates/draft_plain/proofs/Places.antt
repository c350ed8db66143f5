-- What references lead to, and the pairs of a draft as what is led to from the start.
--     body_lower, watch_known     a draft's agents as the lawful score of whens has them
--     target_ends                    what holds at an agent that is no watch, and of a watch where it holds of its body,
--                                    holds of each target
--     target_plain, target_watch     the equations of `target`, without its bound
--     leads_agent, leads_procedure   what a pair leads to, by its parts
--     Known                          what every pair that is led to is: of an agent that is no watch, or of a procedure
--     holds_below                    the tokens of a set below 2 to the power of n are below n
--     Bound, stands_bound            what stands has a set below 2 to the power of T, and is the draft's
--     agents_most                    a lawful draft has no more than 1,024 agents
--     pair_apart                     the pair of what stands has its number and its set
--     PairStands, led_stands         a pair that is led to is of what stands, and of no watch
--     PlaceLed, stands_led           and the pair of whatever stands is led to
--     led_known                      so each pair that is led to is known
--     stands_led_agent, stands_led_procedure      an agent or procedure that stands under a set has its pair led to
--     led_stands_agent, led_stands_procedure      and only those
--     stands_bound_agent             `stands_bound` of an agent
--     target_lower                   the agent that a reference leads to is no higher
use mathlib.Core.Path.{◌≡◌, refl, sym, ap, ◌∙◌, subst}
use mathlib.Core.Bool.{true}
use mathlib.Core.List.{[], ◌∷◌, map, Memᴰ}
use mathlib.Core.Logic.{◌⊎◌, inl, inr}
use Prim.Native.Nat.{ℕ, zero, suc, ◌-◌, ◌/◌, ◌%◌, ◌^◌, ◌<◌, ◌≤◌}
use native.Mathlib.Nat.{div-eq_of_lt, le_trans, le_of_eq}
use native.Mathlib.Decide.{dec_lt}
use native.Mathlib.Omega.{arith}
use lib.Dec.{eqb}
use lib.ListN.{length, length-map}
use lib.Pow.{pow_mono, pow_pos}
use borrow.Author.Tests.{lt-ltb, le-ltb}
use Rattle.laws.proofs.Booleans.{true_is_false}
use Rattle.laws.proofs.Sets.{Within, on_cons, on_append, on_map, map_member}
use Rattle.tcc.specs.Score.{tokens_of, parts_of, procedures_of}
use Rattle.tcc.specs.declared.Agent.{Agent}
use Rattle.tcc.proofs.Multiset.{part_lower}
use Rattle.draft_language.specs.Draft.{Draft, draft_agent_at, root_of, as_when, whens, LawfulDraft}
use Rattle.draft_language.proofs.Whens.{when_is}
use Rattle.draft_language.specs.declared.DraftAgent.{DraftAgent}
use Rattle.draft_language.specs.declared.DraftAgent.TheVariants.{Plain, Watch}
use Rattle.draft_pairs.specs.TokenSets.{holds, with}
use Rattle.draft_plain.specs.Stands.{Place, agent, procedure, Stands, start, root, part, called, watched}
use Rattle.draft_pairs.specs.Pairs.{pair, number_in, set_in}
use Rattle.draft_plain.specs.Led.{Led, first, on}
use Rattle.draft_plain.specs.Places.{procedure_at, target_within, target, agent_leads, leads_to}
use Rattle.draft_pairs.proofs.TokenSets.{with_bound, number_pair, set_pair}

body_lower : (d : Draft) → LawfulDraft d → (i : ℕ) {t b : ℕ} → draft_agent_at d i ≡ Watch t b → b < i
body_lower d law i {t} {b} e = part_lower (whens d) law i (when_is d i e) b (mathlib.Core.List.Memᴰ.head refl)

watch_known : (d : Draft) → LawfulDraft d → (i : ℕ) {t b : ℕ} → draft_agent_at d i ≡ Watch t b → t < d.tokens
watch_known d law i {t} e = law.tokens_known i t (subst (λ a. Memᴰ t (tokens_of a)) (sym (when_is d i e)) (mathlib.Core.List.Memᴰ.head refl))

-- a turn of `target_within`, over any agent in place of agent i
abbrev goes_on : Draft → ℕ → ℕ → ℕ → DraftAgent → ℕ
goes_on d n i set w = elim w [ Plain a ↦ pair i set | Watch t b ↦ target_within d n b (with t set) ]

within_plain : (d : Draft) (n i set : ℕ) {a : Agent} → draft_agent_at d i ≡ Plain a → target_within d n i set ≡ pair i set
within_plain d zero i set e = refl
within_plain d (suc n) i set e = ap (goes_on d n i set) e

within_watch : (d : Draft) (n i set : ℕ) {t b : ℕ} → draft_agent_at d i ≡ Watch t b → target_within d (suc n) i set ≡ target_within d n b (with t set)
within_watch d n i set e = ap (goes_on d n i set) e

module _ (d : Draft) (law : LawfulDraft d) (P : ℕ → ℕ → ℕ → Type 0) (plain : (i set : ℕ) (a : Agent) → draft_agent_at d i ≡ Plain a → P i set (pair i set)) (watch : (i set k t b : ℕ) → draft_agent_at d i ≡ Watch t b → P b (with t set) k → P i set k) where
  ends_within : (n i set : ℕ) → i < n → P i set (target_within d n i set)
  ends_within zero i set h = absurd (omega arith)
  ends_within (suc n) i set h = go (draft_agent_at d i) refl (λ t b lt. ends_within n b (with t set) (omega arith))
    where
      go : (w : DraftAgent) → draft_agent_at d i ≡ w → ((t b : ℕ) → b < i → P b (with t set) (target_within d n b (with t set))) → P i set (goes_on d n i set w)
      go (Plain a) e body = plain i set a e
      go (Watch t b) e body = watch i set (target_within d n b (with t set)) t b e (body t b (body_lower d law i e))

  target_ends : (i set : ℕ) → P i set (target d i set)
  unfolding target
  target_ends i set = ends_within (suc i) i set (omega arith)

target_bound : (d : Draft) → LawfulDraft d → (i set n : ℕ) → i < n → target_within d n i set ≡ target d i set
target_bound d law = target_ends d law (λ i set k. (n : ℕ) → i < n → target_within d n i set ≡ k) (λ i set a e n h. within_plain d n i set e) watch
  where
    watch : (i set k t b : ℕ) → draft_agent_at d i ≡ Watch t b → ((n : ℕ) → b < n → target_within d n b (with t set) ≡ k) → (n : ℕ) → i < n → target_within d n i set ≡ k
    watch i set k t b e body zero h = absurd (omega arith)
    watch i set k t b e body (suc n) h = within_watch d n i set e ∙ body n (omega (arith, body_lower d law i e))

pub target_plain : (d : Draft) (i set : ℕ) (a : Agent) → draft_agent_at d i ≡ Plain a → target d i set ≡ pair i set
unfolding target
target_plain d i set a e = within_plain d (suc i) i set e

pub target_watch : (d : Draft) → LawfulDraft d → (i set t b : ℕ) → draft_agent_at d i ≡ Watch t b → target d i set ≡ target d b (with t set)
unfolding target
target_watch d law i set t b e = within_watch d i i set e ∙ target_bound d law b (with t set) i (body_lower d law i e)

module _ (d : Draft) (k : ℕ) {set : ℕ} (under : set_in k ≡ set) where
  pub leads_agent : {i : ℕ} {a : Agent} → number_in k ≡ i → i < 1024 → draft_agent_at d i ≡ Plain a → leads_to d k ≡ agent_leads d set (Plain a)
  unfolding leads_to
  leads_agent {i} n h e = rw (under, n, lt-ltb i 1024 h) (ap (agent_leads d set) e)

  pub leads_procedure : (p : ℕ) → number_in k ≡ procedure_at p → leads_to d k ≡ target d (root_of d p) set ∷ []
  unfolding leads_to
  leads_procedure p n =
      let high : 1024 ≤ number_in k = omega arith in
      let is : number_in k - 1024 ≡ p = omega arith in
      rw (under, le-ltb (number_in k) 1024 high, is)

-- of an agent: it is the draft's, and no watch; of a procedure: it is the draft's; and the tokens of the set are the draft's
pub record KnownAgent (d : Draft) (k : ℕ) : Type 0 where
  pub known : number_in k < length d.agents
  pub written : Agent
  pub is_written : draft_agent_at d (number_in k) ≡ Plain written

pub record Known (d : Draft) (k : ℕ) : Type 0 where
  pub kind : KnownAgent d k ⊎ ((p : ℕ) × (p < length d.roots) × (number_in k ≡ procedure_at p))
  pub tokens_known : (t : ℕ) → holds (set_in k) t ≡ true → t < d.tokens

holds_below : (n set t : ℕ) → set < 2 ^ n → holds set t ≡ true → t < n
unfolding holds
holds_below n set t b h = go (dec_lt t n)
  where
    go : Dec (t < n) → t < n
    go (yes lt) = lt
    go (no ge) =
        let le : n ≤ t = omega arith in
        let none : set / 2 ^ t ≡ 0 = div-eq_of_lt (omega (arith, pow_mono le)) in
        absurd (true_is_false h (ap (λ q. eqb (q % 2) 1) none))

module _ (d : Draft) where
  abbrev Bound : Place → Type 0
  Bound (agent i set) = (set < 2 ^ d.tokens) × (i < length d.agents)
  Bound (procedure p set) = (set < 2 ^ d.tokens) × (p < length d.roots)

  abbrev AgentStands : ℕ → Type 0
  AgentStands k = KnownAgent d k × Stands d (agent (number_in k) (set_in k))

  abbrev ProcedureStands : ℕ → Type 0
  ProcedureStands k = (p : ℕ) × (number_in k ≡ procedure_at p) × Stands d (procedure p (set_in k))

  abbrev PairStands : ℕ → Type 0
  PairStands k = AgentStands k ⊎ ProcedureStands k

  abbrev PlaceLed : Place → Type 0
  PlaceLed (agent i set) = Led d (target d i set)
  PlaceLed (procedure p set) = Led d (pair (procedure_at p) set)

module _ (d : Draft) (law : LawfulDraft d) where
  pub agents_most : length d.agents ≤ 1024
  agents_most = omega (arith, law.agents_at_most, length-map d.agents as_when)

  stands_bound : {x : Place} → Stands d x → Bound d x
  stands_bound start = (pow_pos d.tokens, law.some_roots)
  stands_bound (root {p = p} s) = ((stands_bound s).0, omega (arith, law.roots_known p (stands_bound s).1, length-map d.agents as_when))
  stands_bound (part {i = i} {b = b} s e m) = ((stands_bound s).0, omega (arith, part_lower (whens d) law i (when_is d i e) b m, (stands_bound s).1))
  stands_bound (called {i = i} {p = p} s e m) = ((stands_bound s).0, law.procedures_known i p (subst (λ a. Memᴰ p (procedures_of a)) (sym (when_is d i e)) m))
  stands_bound (watched {i = i} {t = t} {set = set} s e) = (with_bound d.tokens t set (watch_known d law i e) (stands_bound s).0, omega (arith, body_lower d law i e, (stands_bound s).1))

  pair_apart : (n set : ℕ) → set < 2 ^ d.tokens → (number_in (pair n set) ≡ n) × (set_in (pair n set) ≡ set)
  pair_apart n set b = let b' : set < 2 ^ 256 = le_trans b (pow_mono law.tokens_at_most) in (number_pair n set b', set_pair n set b')

  agent_stands : (i set : ℕ) (a : Agent) → draft_agent_at d i ≡ Plain a → Stands d (agent i set) → AgentStands d (pair i set)
  agent_stands i set a e s =
      let (below, known) = stands_bound s in
      let (n, u) = pair_apart i set below in
      (record { known = rw n known; written = a; is_written = rw n e }, rw (n, u) s)

  procedure_stands : (p set : ℕ) → Stands d (procedure p set) → ProcedureStands d (pair (procedure_at p) set)
  procedure_stands p set s = let (n, u) = pair_apart (procedure_at p) set (stands_bound s).0 in (p, n, rw u s)

  target_stands : (i set : ℕ) → Stands d (agent i set) → AgentStands d (target d i set)
  target_stands = target_ends d law (λ i set k. Stands d (agent i set) → AgentStands d k) agent_stands (λ i set k t b e body s. body (watched s e))

  leads_stand : (k : ℕ) → PairStands d k → Within (PairStands d) (leads_to d k)
  leads_stand k (inl (a, s)) =
      let set = set_in k in
      let low : number_in k < 1024 = omega (arith, a.known, agents_most) in
      let parts : Within (PairStands d) (map (λ b. target d b set) (parts_of a.written)) = on_map (PairStands d) (λ b. target d b set) (parts_of a.written) (λ b m. inl (target_stands b set (part s a.is_written m))) in
      let calls : Within (PairStands d) (map (λ p. pair (procedure_at p) set) (procedures_of a.written)) = on_map (PairStands d) (λ p. pair (procedure_at p) set) (procedures_of a.written) (λ p m. inr (procedure_stands p set (called s a.is_written m))) in
      rw (leads_agent d k refl refl low a.is_written) (on_append {P = PairStands d} (map (λ b. target d b set) (parts_of a.written)) parts calls)
  leads_stand k (inr (p, e, s)) = rw (leads_procedure d k refl p e) (on_cons {P = PairStands d} (inl (target_stands (root_of d p) (set_in k) (root s))) (λ m y. elim y [ ]))

  led_stands : {k : ℕ} → Led d k → PairStands d k
  led_stands first = inr (procedure_stands 0 0 start)
  led_stands (on {k = k} {m = m} l x) = leads_stand k (led_stands l) m x

  agent_leads_lem : {i set : ℕ} {a : Agent} → Stands d (agent i set) → draft_agent_at d i ≡ Plain a → leads_to d (pair i set) ≡ agent_leads d set (Plain a)
  agent_leads_lem {i} {set} s e =
      let (below, known) = stands_bound s in
      let (n, u) = pair_apart i set below in
      leads_agent d (pair i set) u n (omega (arith, agents_most)) e

  stands_led : {x : Place} → Stands d x → PlaceLed d x
  stands_led start = first
  stands_led (root {p = p} {set = set} s) =
      let (n, u) = pair_apart (procedure_at p) set (stands_bound s).0 in
      let m : Memᴰ (target d (root_of d p) set) (leads_to d (pair (procedure_at p) set)) = rw (leads_procedure d (pair (procedure_at p) set) u p n) (mathlib.Core.List.Memᴰ.head refl) in
      on (stands_led s) m
  stands_led (part {i = i} {b = b} {set = set} {a = a} s e x) =
      let m : Memᴰ (target d b set) (leads_to d (pair i set)) = rw (agent_leads_lem s e) (mathlib.Core.List.Memᴰ.append_left (map (λ p. pair (procedure_at p) set) (procedures_of a)) (map_member (λ c. target d c set) x)) in
      on (rw (target_plain d i set a e) at (stands_led s)) m
  stands_led (called {i = i} {p = p} {set = set} {a = a} s e x) =
      let m : Memᴰ (pair (procedure_at p) set) (leads_to d (pair i set)) = rw (agent_leads_lem s e) (mathlib.Core.List.Memᴰ.append_right (map (λ c. target d c set) (parts_of a)) (map_member (λ q. pair (procedure_at q) set) x)) in
      on (rw (target_plain d i set a e) at (stands_led s)) m
  stands_led (watched {i = i} {t = t} {b = b} {set = set} s e) = rw (target_watch d law i set t b e) at (stands_led s)

pub led_known : (d : Draft) → LawfulDraft d → (k : ℕ) → Led d k → Known d k
led_known d law k l = go (led_stands d law l)
  where
    go : PairStands d k → Known d k
    go (inl (a, s)) = record { kind = inl a; tokens_known = λ t h. holds_below d.tokens (set_in k) t (stands_bound d law s).0 h }
    go (inr (p, e, s)) = record { kind = inr (p, (stands_bound d law s).1, e); tokens_known = λ t h. holds_below d.tokens (set_in k) t (stands_bound d law s).0 h }

pub stands_led_agent : (d : Draft) → LawfulDraft d → (i set : ℕ) → Stands d (agent i set) → Led d (target d i set)
stands_led_agent d law i set s = stands_led d law s

pub stands_led_procedure : (d : Draft) → LawfulDraft d → (p set : ℕ) → Stands d (procedure p set) → Led d (pair (procedure_at p) set)
stands_led_procedure d law p set s = stands_led d law s

pub led_stands_agent : (d : Draft) → LawfulDraft d → (k : ℕ) → Led d k → KnownAgent d k → Stands d (agent (number_in k) (set_in k))
led_stands_agent d law k l a = go (led_stands d law l)
  where
    go : PairStands d k → Stands d (agent (number_in k) (set_in k))
    go (inl (b, s)) = s
    go (inr (p, e, s)) = absurd (omega (arith, a.known, agents_most d law))

pub led_stands_procedure : (d : Draft) → LawfulDraft d → (k p : ℕ) → Led d k → number_in k ≡ procedure_at p → Stands d (procedure p (set_in k))
led_stands_procedure d law k p l e = go (led_stands d law l)
  where
    go : PairStands d k → Stands d (procedure p (set_in k))
    go (inl (a, s)) = absurd (omega (arith, a.known, agents_most d law))
    go (inr (q, n, s)) = let same : p ≡ q = omega arith in rw same s

pub stands_bound_agent : (d : Draft) → LawfulDraft d → (i set : ℕ) → Stands d (agent i set) → (set < 2 ^ d.tokens) × (i < length d.agents)
stands_bound_agent d law i set s = stands_bound d law s

pub target_lower : (d : Draft) → LawfulDraft d → (i set : ℕ) → i < length d.agents → set < 2 ^ d.tokens → number_in (target d i set) ≤ i
target_lower d law i set h b = target_ends d law (λ i set k. set < 2 ^ d.tokens → number_in k ≤ i)
    (λ i set a e b. le_of_eq (pair_apart d law i set b).0)
    (λ i set k t c e body b. omega (arith, body (with_bound d.tokens t set (watch_known d law i e) b), body_lower d law i e))
    i set b
