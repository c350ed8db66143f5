-- The instant's least fixed point, and the interface for engines.
--     fact_decides               the test of facts decides
--     Holds, Reached             marks as a property of facts; the facts reached
--     live_in_lem, in_live       a number is in `live_in` if and only if its fact is a member; so `held_in_lem`, `in_held`
--     is_abort_lem               the test of abort
--     second                     a list of two has its second member
--     on_effects, effects_in     the rules of `effects_from` are the effects of each agent
--     effects_follow             closed marks are closed under each agent's effects; so under all, and under the store's rules
--     reached_least              closed marks hold whatever is reached
--     reach                      what is reached is closed
--     awake_member, member_awake     who leaves a body awake
--     leaves_same, reducible_same    what an agent leaves, and whether it is reduced, rests on the members of the store alone
--     awake_within, reduced_same     so do the agents awake and reduced, with the members of the live agents
--     settled_quiet              marks with the members of a quiet answer settle it
--     aborts, settles            sound marks with a live abort; sound and closed marks without
--     known_closed, stays_known  the score's own agents and tokens are closed marks, so nothing else is reached
use mathlib.Core.Path.{◌≡◌, refl, sym, ap, ap₂, subst}
use mathlib.Core.Bool.{Bool, true, false, cond, ◌&&◌}
use mathlib.Core.List.Memᴰ
use mathlib.Core.List.{List, [], ◌∷◌, ◌++◌, map, Memᴰ}
use mathlib.Core.Logic.{⊎_elim}
use Prim.Native.Nat.{ℕ, zero, suc, ◌+◌, ◌<◌}
use native.Mathlib.Omega.{arith}
use lib.ListN.{length, get_or}
use borrow.Author.Tests.{eqb-true, eq-eqb}
use Rattle.laws.specs.Sets.{Same, below, any, has}
use Rattle.laws.proofs.Booleans.{true_is_false}
use Rattle.laws.proofs.Sets.{Within, any_some, some_any, member_has, not_has, has_same, on_cons, on_append, on_map, map_member, keep_agrees, same_sym}
use Rattle.tcc.specs.Closure.{Rule}
use Rattle.tcc.specs.Score.{Score, agent_at, parts_of}
use Rattle.tcc.specs.Lawful.{Lawful, AgentsBelow}
use Rattle.tcc.specs.Store.{store_rules}
use Rattle.tcc.specs.Instant.{Fact, live, held, same_fact, effects, effects_from, held_rule, instant_rules, reached, live_in, held_in, is_abort, reducible, leaves, left_awake, reduced_of, Answer, aborted_answer, quiet_answer, instant}
use Rattle.tcc.specs.FixedPoint.{Closed, Sound, Reach, Marked, Settled, Settles, Aborts, StaysKnown}
use Rattle.tcc.specs.declared.Agent.{Agent}
use Rattle.tcc.specs.declared.Agent.TheVariants.{Skip, Abort, Tell, Parallel, When, Next, Unless, Call}
use Rattle.tcc.proofs.Closure.{Decides, Passes, Follows, close_above, close_closed, close_least}
use Rattle.tcc.proofs.Store.{store_follows, follows_rules, follows_clash}

pub fact_decides : Decides same_fact
fact_decides (live i) (live j) = (λ e. ap live (eqb-true i j e), λ e. eq-eqb i j (cc))
fact_decides (live i) (held u) = (λ e. absurd (true_is_false e refl), λ e. absurd (let z : ◌≡◌ {A = ℕ} 0 1 = cc in omega arith))
fact_decides (held t) (live j) = (λ e. absurd (true_is_false e refl), λ e. absurd (let z : ◌≡◌ {A = ℕ} 0 1 = cc in omega arith))
fact_decides (held t) (held u) = (λ e. ap held (eqb-true t u e), λ e. eq-eqb t u (cc))

abbrev pub Holds : (ℕ → Type 0) → (ℕ → Type 0) → Fact → Type 0
Holds Live Held (live i) = Live i
Holds Live Held (held t) = Held t

abbrev pub Reached : Score → List ℕ → List ℕ → Fact → Type 0
Reached sc agents inputs x = Memᴰ x (reached sc agents inputs)

pub live_in_lem : (l : List Fact) {i : ℕ} → Memᴰ i (live_in l) → Memᴰ (live i) l
live_in_lem [] m = elim m [ ]
live_in_lem (live j ∷ l) m = on_cons {P = λ k. Memᴰ (live k) (live j ∷ l)} (Memᴰ.head refl) (λ k k∈. Memᴰ.tail (live_in_lem l k∈)) _ m
live_in_lem (held t ∷ l) m = Memᴰ.tail (live_in_lem l m)

pub held_in_lem : (l : List Fact) {t : ℕ} → Memᴰ t (held_in l) → Memᴰ (held t) l
held_in_lem [] m = elim m [ ]
held_in_lem (live j ∷ l) m = Memᴰ.tail (held_in_lem l m)
held_in_lem (held u ∷ l) m = on_cons {P = λ k. Memᴰ (held k) (held u ∷ l)} (Memᴰ.head refl) (λ k k∈. Memᴰ.tail (held_in_lem l k∈)) _ m

pub in_live : (l : List Fact) {i : ℕ} → Memᴰ (live i) l → Memᴰ i (live_in l)
in_live [] m = elim m [ ]
in_live (live j ∷ l) {i} m = ⊎_elim (λ (e : live i ≡ live j). let p : i ≡ j = cc in Memᴰ.head p) (λ (k : Memᴰ (live i) l). Memᴰ.tail (in_live l k)) (Memᴰ.cases_cons m)
in_live (held t ∷ l) {i} m = ⊎_elim (λ (e : live i ≡ held t). absurd (let z : ◌≡◌ {A = ℕ} 0 1 = cc in omega arith)) (λ (k : Memᴰ (live i) l). in_live l k) (Memᴰ.cases_cons m)

pub in_held : (l : List Fact) {t : ℕ} → Memᴰ (held t) l → Memᴰ t (held_in l)
in_held [] m = elim m [ ]
in_held (live j ∷ l) {t} m = ⊎_elim (λ (e : held t ≡ live j). absurd (let z : ◌≡◌ {A = ℕ} 0 1 = cc in omega arith)) (λ (k : Memᴰ (held t) l). in_held l k) (Memᴰ.cases_cons m)
in_held (held u ∷ l) {t} m = ⊎_elim (λ (e : held t ≡ held u). let p : t ≡ u = cc in Memᴰ.head p) (λ (k : Memᴰ (held t) l). Memᴰ.tail (in_held l k)) (Memᴰ.cases_cons m)

pub is_abort_lem : (a : Agent) → is_abort a ≡ true → a ≡ Abort
is_abort_lem Skip e = absurd (true_is_false e refl)
is_abort_lem Abort e = refl
is_abort_lem (Tell t) e = absurd (true_is_false e refl)
is_abort_lem (Parallel a b) e = absurd (true_is_false e refl)
is_abort_lem (When t b) e = absurd (true_is_false e refl)
is_abort_lem (Next b) e = absurd (true_is_false e refl)
is_abort_lem (Unless t b) e = absurd (true_is_false e refl)
is_abort_lem (Call p) e = absurd (true_is_false e refl)

second : {A : Type 0} (x y : A) → Memᴰ y (x ∷ y ∷ [])
second x y = Memᴰ.tail (Memᴰ.head refl)

module _ (sc : Score) where
  pub on_effects : {P : Rule Fact → Type 0} (n : ℕ) (l : List Agent) → ((i k : ℕ) → k ≡ n + i → Within P (effects sc k (get_or l i Skip))) → Within P (effects_from sc n l)
  on_effects {P} n [] h r m = elim m [ ]
  on_effects {P} n (a ∷ l) h r m = on_append (effects sc n a) (h zero n (omega arith)) (on_effects (suc n) l (λ i k e. h (suc i) k (omega arith))) r m

  pub effects_in : (n : ℕ) (l : List Agent) (i k : ℕ) → k ≡ n + i → Within (λ r. Memᴰ r (effects_from sc n l)) (effects sc k (get_or l i Skip))
  effects_in n [] i k e r m = elim m [ ]
  effects_in n (a ∷ l) zero k e r m = let p : k ≡ n = omega arith in Memᴰ.append_left _ (subst (λ x. Memᴰ r (effects sc x a)) p m)
  effects_in n (a ∷ l) (suc i) k e r m = Memᴰ.append_right (effects sc n a) (effects_in (suc n) l i k (omega arith) r m)

  module _ (agents inputs : List ℕ) where
    module _ (Live Held : ℕ → Type 0) (closed : Closed sc agents inputs Live Held) where
      effects_follow : (i : ℕ) (a : Agent) → agent_at sc i ≡ a → Follows (Holds Live Held) (effects sc i a)
      effects_follow i Skip e = λ r m. elim m [ ]
      effects_follow i Abort e = λ r m. elim m [ ]
      effects_follow i (Tell t) e = on_cons (λ h. closed.tells i t (h (live i) (Memᴰ.head refl)) e) (λ r m. elim m [ ])
      effects_follow i (Parallel a b) e = on_cons (λ h. (closed.splits i a b (h (live i) (Memᴰ.head refl)) e).0) (on_cons (λ h. (closed.splits i a b (h (live i) (Memᴰ.head refl)) e).1) (λ r m. elim m [ ]))
      effects_follow i (When t b) e = on_cons (λ h. closed.awaits i t b (h (live i) (Memᴰ.head refl)) e (h (held t) (second (live i) (held t)))) (λ r m. elim m [ ])
      effects_follow i (Next b) e = λ r m. elim m [ ]
      effects_follow i (Unless t b) e = λ r m. elim m [ ]
      effects_follow i (Call p) e = on_cons (λ h. closed.calls i p (h (live i) (Memᴰ.head refl)) e) (λ r m. elim m [ ])

      agents_follow : Follows (Holds Live Held) (effects_from sc zero sc.agents)
      agents_follow = on_effects zero sc.agents (λ i k e. let p : i ≡ k = omega arith in subst (λ n. Follows (Holds Live Held) (effects sc n (agent_at sc i))) p (effects_follow i (agent_at sc i) refl))

      held_follow : Follows (Holds Live Held) (map held_rule (store_rules sc))
      held_follow = on_map (Passes (Holds Live Held)) held_rule (store_rules sc) (λ r m h. store_follows sc {P = Held} closed.rules closed.clash r m (λ p k. h (held p) (map_member held k)))

      pub reached_least : Within (Holds Live Held) (reached sc agents inputs)
      unfolding reached
      reached_least = close_least same_fact fact_decides (Holds Live Held) (instant_rules sc) (map live agents ++ map held inputs)
          (on_append (effects_from sc zero sc.agents) agents_follow held_follow)
          (on_append (map live agents) (on_map (Holds Live Held) live agents closed.begins) (on_map (Holds Live Held) held inputs closed.told))

    reached_above : Within (Reached sc agents inputs) (map live agents ++ map held inputs)
    unfolding reached
    reached_above = close_above same_fact (instant_rules sc) (map live agents ++ map held inputs)

    reached_follows : Follows (Reached sc agents inputs) (instant_rules sc)
    unfolding reached
    reached_follows = close_closed same_fact fact_decides (instant_rules sc) (map live agents ++ map held inputs)

    reached_store : Follows (λ t. Reached sc agents inputs (held t)) (store_rules sc)
    reached_store r m h = reached_follows (held_rule r) (Memᴰ.append_right (effects_from sc zero sc.agents) (map_member held_rule m)) (on_map (Reached sc agents inputs) held r.premises h)

pub reach : Reach
reach sc agents inputs = record {
  begins = λ i m. reached_above sc agents inputs (live i) (Memᴰ.append_left (map held inputs) (map_member live m));
  told = λ t m. reached_above sc agents inputs (held t) (Memᴰ.append_right (map live agents) (map_member held m));
  tells = λ i t l e. effect i (Tell t) e _ (Memᴰ.head refl) (on_cons l (λ x m. elim m [ ]));
  splits = λ i a b l e. (effect i (Parallel a b) e _ (Memᴰ.head refl) (on_cons l (λ x m. elim m [ ])), effect i (Parallel a b) e _ (Memᴰ.tail (Memᴰ.head refl)) (on_cons l (λ x m. elim m [ ])));
  calls = λ i p l e. effect i (Call p) e _ (Memᴰ.head refl) (on_cons l (λ x m. elim m [ ]));
  awaits = λ i t b l e h. effect i (When t b) e _ (Memᴰ.head refl) (on_cons l (on_cons h (λ x m. elim m [ ])));
  rules = follows_rules sc (reached_store sc agents inputs);
  clash = follows_clash sc (reached_store sc agents inputs);
}
  where
    effect : (i : ℕ) (a : Agent) → agent_at sc i ≡ a → Follows (Reached sc agents inputs) (effects sc i a)
    effect i a e r m = reached_follows sc agents inputs r (Memᴰ.append_left _ (effects_in sc zero sc.agents i i (omega arith) r (subst (λ x. Memᴰ r (effects sc i x)) (sym e) m)))

module _ (sc : Score) where
  -- the body that is left awake comes from a live agent
  pub awake_member : (store lives : List ℕ) {b : ℕ} → Memᴰ b (left_awake sc store lives) → (i : ℕ) × Memᴰ i lives × Memᴰ b (leaves store (agent_at sc i))
  awake_member store [] m = elim m [ ]
  awake_member store (j ∷ lives) {b} m = on_append {P = λ c. (i : ℕ) × Memᴰ i (j ∷ lives) × Memᴰ c (leaves store (agent_at sc i))} (leaves store (agent_at sc j))
      (λ c k. (j, Memᴰ.head refl, k))
      (λ c k. let x = awake_member store lives k in (x.0, Memᴰ.tail x.1, x.2)) b m

  pub member_awake : (store : List ℕ) {i b : ℕ} {lives : List ℕ} → Memᴰ i lives → Memᴰ b (leaves store (agent_at sc i)) → Memᴰ b (left_awake sc store lives)
  member_awake store {i} {b} (Memᴰ.head {x = j} {xs = more} e) k = Memᴰ.append_left _ (subst (λ n. Memᴰ b (leaves store (agent_at sc n))) e k)
  member_awake store {i} {b} (Memᴰ.tail {x = j} {xs = more} m) k = Memᴰ.append_right (leaves store (agent_at sc j)) (member_awake store m k)

module _ {store store' : List ℕ} (same : Same store store') where
  leaves_same : (a : Agent) → leaves store a ≡ leaves store' a
  leaves_same Skip = refl
  leaves_same Abort = refl
  leaves_same (Tell t) = refl
  leaves_same (Parallel a b) = refl
  leaves_same (When t b) = refl
  leaves_same (Next b) = refl
  leaves_same (Unless t b) = rw (has_same t same)
  leaves_same (Call p) = refl

  reducible_same : (a : Agent) → reducible store a ≡ reducible store' a
  reducible_same Skip = refl
  reducible_same Abort = refl
  reducible_same (Tell t) = refl
  reducible_same (Parallel a b) = refl
  reducible_same (When t b) = has_same t same
  reducible_same (Next b) = refl
  reducible_same (Unless t b) = has_same t same
  reducible_same (Call p) = refl

  module _ (sc : Score) {lives lives' : List ℕ} (same-lives : Same lives lives') where
    awake_within : Within (λ b. Memᴰ b (left_awake sc store' lives')) (left_awake sc store lives)
    awake_within b m = let x = awake_member sc store lives m in member_awake sc store' ((same-lives x.0).0 x.1) (subst (λ l. Memᴰ b l) (leaves_same (agent_at sc x.0)) x.2)

    reduced_same : reduced_of sc store lives ≡ reduced_of sc store' lives'
    reduced_same = keep_agrees _ _ (below (length sc.agents)) (λ i m. ap₂ ◌&&◌ (has_same i same-lives) (reducible_same (agent_at sc i)))

neither_aborts : (b : Bool) (x y : ℕ) → x < 2 → y < 2 → cond b x y ≡ 2 → ⊥
neither_aborts true x y p q e = omega arith
neither_aborts false x y p q e = omega arith

settled_quiet : (sc : Score) {lives lives' store store' : List ℕ} → Same lives lives' → Same store store' → Settled sc lives store (quiet_answer sc store' lives')
settled_quiet sc {lives} {lives'} {store} {store'} same-lives same = record {
  unaborted = neither_aborts (has 0 store') _ _ (omega arith) (omega arith);
  clash = λ m. rw (member_has ((same 0).0 m));
  no_clash = λ h. rw (not_has (λ m. h ((same 0).1 m)));
  same_store = same;
  same_reduced = reduced_same same sc same-lives;
  same_awake = λ b. (awake_within same sc same-lives b, awake_within (same_sym same) sc (same_sym same-lives) b);
}

module _ (sc : Score) (agents inputs : List ℕ) where
  abbrev Aborting : Bool
  Aborting = any (λ i. is_abort (agent_at sc i)) (live_in (reached sc agents inputs))

  instant_aborts : Aborting ≡ true → instant sc agents inputs ≡ aborted_answer
  unfolding instant
  instant_aborts e = rw e

  instant_quiet : Aborting ≡ false → instant sc agents inputs ≡ quiet_answer sc (held_in (reached sc agents inputs)) (live_in (reached sc agents inputs))
  unfolding instant
  instant_quiet e = rw e

  none_aborts : ((i : ℕ) → Memᴰ (live i) (reached sc agents inputs) → agent_at sc i ≡ Abort → ⊥) → Aborting ≡ false
  none_aborts h = go Aborting refl
    where
      go : (b : Bool) → Aborting ≡ b → Aborting ≡ false
      go true e = let x = any_some (λ i. is_abort (agent_at sc i)) (live_in (reached sc agents inputs)) e in absurd (h x.0 (live_in_lem (reached sc agents inputs) x.1) (is_abort_lem (agent_at sc x.0) x.2))
      go false e = e

  module _ (lives store : List ℕ) (sound : Sound sc agents inputs (Marked lives) (Marked store)) where
    some_aborts : (i : ℕ) → Memᴰ i lives → agent_at sc i ≡ Abort → Aborting ≡ true
    some_aborts i m e = some_any (λ k. is_abort (agent_at sc k)) (in_live (reached sc agents inputs) (sound.lives i m)) (ap is_abort e)

    module _ (closed : Closed sc agents inputs (Marked lives) (Marked store)) where
      lives_same : Same lives (live_in (reached sc agents inputs))
      lives_same i = (λ m. in_live (reached sc agents inputs) (sound.lives i m), λ m. reached_least sc agents inputs (Marked lives) (Marked store) closed (live i) (live_in_lem (reached sc agents inputs) m))

      store_same : Same store (held_in (reached sc agents inputs))
      store_same t = (λ m. in_held (reached sc agents inputs) (sound.holds t m), λ m. reached_least sc agents inputs (Marked lives) (Marked store) closed (held t) (held_in_lem (reached sc agents inputs) m))

pub aborts : Aborts
aborts sc agents inputs lives store sound i m e = instant_aborts sc agents inputs (some_aborts sc agents inputs lives store sound i m e)

pub settles : Settles
settles sc agents inputs lives store sound closed none =
    let quiet = none_aborts sc agents inputs (λ i m. none i (reached_least sc agents inputs (Marked lives) (Marked store) closed (live i) m)) in
    rw (instant_quiet sc agents inputs quiet) (settled_quiet sc (lives_same sc agents inputs lives store sound closed) (store_same sc agents inputs lives store sound closed))

-- a body that is left awake is a part of its agent
leaves_part : (store : List ℕ) (a : Agent) → Within (λ b. Memᴰ b (parts_of a)) (leaves store a)
leaves_part store Skip = λ b m. m
leaves_part store Abort = λ b m. m
leaves_part store (Tell t) = λ b m. elim m [ ]
leaves_part store (Parallel a b) = λ c m. elim m [ ]
leaves_part store (When t b) = λ c m. elim m [ ]
leaves_part store (Next b) = λ c m. m
leaves_part store (Unless t b) = go (has t store)
  where
    go : (x : Bool) → Within (λ c. Memᴰ c (b ∷ [])) (cond x [] (b ∷ []))
    go true = λ c m. elim m [ ]
    go false = λ c m. m
leaves_part store (Call p) = λ b m. m

module _ (sc : Score) (agents inputs : List ℕ) (lawful : Lawful sc) (known : AgentsBelow sc agents) (known-inputs : (t : ℕ) → Memᴰ t inputs → t < sc.tokens) where
  -- a part of one of the score's agents
  part_known : (i b : ℕ) → i < length sc.agents → Memᴰ b (parts_of (agent_at sc i)) → b < length sc.agents
  part_known i b l m = let h : b < i = lawful.parts_lower i b m in omega arith

  -- the numbers of the score's agents and tokens are closed marks
  known_closed : Closed sc agents inputs (λ i. i < length sc.agents) (λ t. t < sc.tokens)
  known_closed = record {
    begins = known;
    told = known-inputs;
    tells = λ i t l e. lawful.tokens_known i t (rw e (Memᴰ.head refl));
    splits = λ i a b l e. (part_known i a l (rw e (Memᴰ.head refl)), part_known i b l (rw e (Memᴰ.tail (Memᴰ.head refl))));
    calls = λ i p l e. lawful.roots_known p (lawful.procedures_known i p (rw e (Memᴰ.head refl)));
    awaits = λ i t b l e h. part_known i b l (rw e (Memᴰ.head refl));
    rules = λ r m h. lawful.conclusions_known r m;
    clash = λ t z l. l;
  }

  reached_known : Within (Holds (λ i. i < length sc.agents) (λ t. t < sc.tokens)) (reached sc agents inputs)
  reached_known = reached_least sc agents inputs (λ i. i < length sc.agents) (λ t. t < sc.tokens) known_closed

  abbrev Known : Answer → Type 0
  Known a = AgentsBelow sc a.awake × ((t : ℕ) → Memᴰ t a.store → t < sc.tokens)

  quiet_known : Known (quiet_answer sc (held_in (reached sc agents inputs)) (live_in (reached sc agents inputs)))
  quiet_known = (
    λ b m. let x = awake_member sc (held_in (reached sc agents inputs)) (live_in (reached sc agents inputs)) m in
        part_known x.0 b (reached_known (live x.0) (live_in_lem (reached sc agents inputs) x.1)) (leaves_part (held_in (reached sc agents inputs)) (agent_at sc x.0) b x.2),
    λ t m. reached_known (held t) (held_in_lem (reached sc agents inputs) m),
  )

  instant_known : (b : Bool) → Aborting sc agents inputs ≡ b → Known (instant sc agents inputs)
  instant_known true e = rw (instant_aborts sc agents inputs e) (λ i m. elim m [ ], λ t m. elim m [ ])
  instant_known false e = rw (instant_quiet sc agents inputs e) quiet_known

pub stays_known : StaysKnown
stays_known sc agents inputs lawful known known-inputs = instant_known sc agents inputs lawful known known-inputs (Aborting sc agents inputs) refl
