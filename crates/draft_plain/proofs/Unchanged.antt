-- A score without watches, all of whose agents and procedures lie on paths from procedure 0, is its own plain score.
--     keep_all, mapped_at, mapped       of lists: a test that all pass; the images of the numbers below n
--     asks_none                         under no token no agent asks for a set of several
--     bare_agents, bare_procedures      the pairs of the first n agents and procedures with no token
--     pairs_rise, pairs_agents, pairs_procedures      as one list
--     target_bare                       without watches a reference leads where it says
--     pairs_all                         so these are all the pairs
--     agent_index, procedure_index      each stands where it stood
--     agents_kept, roots_kept, sets_none      so nothing changes
--     unchanged                         the claim
use mathlib.Core.Path.{◌≡◌, refl, sym, ap, ap₂, subst, subst⁻¹, ◌∙◌}
use mathlib.Core.Bool.{Bool, true, false}
use mathlib.Core.List.Memᴰ
use mathlib.Core.List.{List, [], ◌∷◌, ◌++◌, map, append-nil, Memᴰ}
use Prim.Native.Nat.{ℕ, ◌-◌, ◌<◌, ◌≤◌}
use native.Mathlib.Nat.{add-zero}
use native.Mathlib.Omega.{arith}
use lib.Dec.{lit<}
use lib.ListN.{length, get_or, length-map}
use lib.Seq.{ext_get_or}
use borrow.Author.Tests.{lt-ltb, le-ltb, le-leb, lt-leb}
use Rattle.laws.specs.Sets.{below, keep}
use Rattle.laws.specs.Rising.{Rising}
use Rattle.laws.proofs.Lists.{map_at}
use Rattle.laws.proofs.Sets.{Within, Among, on_cons, on_append, on_map, map_member, keep_append, keep_none, below_lt, lt_below, below_length, below_at}
use Rattle.laws.proofs.Rising.{rising_append, rising_images, below_rising}
use Rattle.tcc.specs.Score.{agent_at, tokens_of, parts_of, procedures_of}
use Rattle.tcc.specs.declared.Agent.{Agent}
use Rattle.tcc.specs.declared.Agent.TheVariants.{Skip, Abort, Tell, Parallel, When, Next, Unless, Call}
use Rattle.draft_language.specs.Draft.{Draft, draft_agent_at, root_of, as_when, whens, LawfulDraft}
use Rattle.draft_language.specs.declared.DraftAgent.{DraftAgent}
use Rattle.draft_language.specs.declared.DraftAgent.TheVariants.{Plain, Watch}
use Rattle.draft_pairs.specs.Pairs.{pair, number_in, set_in, index_of}
use Rattle.draft_plain.specs.Places.{procedure_at, target, agent_leads, leads_to, places, agent_places, procedure_places}
use Rattle.draft_pairs.specs.TokenSets.{several}
use Rattle.draft_plain.specs.Plain.{asks_for, agent_in, asked_sets, stands_at, plain_agent, plain_by, plain_of}
use Rattle.draft_plain.specs.Unchanged.{WithoutWatches, AllOnPaths, Unchanged}
use Rattle.draft_pairs.proofs.TokenSets.{number_pair, set_pair, pair_before}
use Rattle.draft_pairs.proofs.Rising.{at_index}
use Rattle.draft_plain.specs.Led.{Led}
use Rattle.draft_plain.proofs.Places.{target_plain, stands_led_agent, stands_led_procedure}
use Rattle.draft_plain.proofs.Copying.{Closed, PlacesFit, fit_short, places_unique}
use Rattle.draft_plain.proofs.PlainPairs.{when_at, leads_agent, leads_procedure, draft_agents, written_parts, written_tokens}
use Rattle.draft_plain.proofs.AskedLaws.{asked_none, none_several, one_several, asked_one}

keep_all : {A : Type 0} (f : A → Bool) (l : List A) → Within (λ x. f x ≡ true) l → keep f l ≡ l
keep_all f [] h = refl
keep_all f (x ∷ l) h = let p : f x ≡ true = h x (Memᴰ.head refl) in rw p (ap (λ k. x ∷ k) (keep_all f l (λ y m. h y (Memᴰ.tail m))))

-- the images of the numbers below n
mapped_at : {A : Type 0} (g : ℕ → A) (n i : ℕ) (z : A) → i < n → get_or (map g (below n)) i z ≡ g i
mapped_at g n i z h = map_at g (below n) i 0 z (omega (arith, below_length n)) ∙ ap g (below_at n i h)

mapped : {A : Type 0} (f : ℕ → A) (g : ℕ → ℕ) (n : ℕ) (l : List A) (z : A) → length l ≡ n → ((i : ℕ) → i < n → f (g i) ≡ get_or l i z) → map f (map g (below n)) ≡ l
mapped f g n l z e h =
    let long : length (map f (map g (below n))) ≡ n = length-map (map g (below n)) f ∙ length-map (below n) g ∙ below_length n in
    ext_get_or z (map f (map g (below n))) l (long ∙ sym e) (λ i lt. map_at f (map g (below n)) i 0 z (omega (arith, length-map (map g (below n)) f)) ∙ ap f (mapped_at g n i 0 (omega arith)) ∙ h i (omega arith))

-- a plain agent under no token asks for no set of several
asks_none : (a : Agent) → Within (λ t. t < 256) (tokens_of a) → Within (λ set. several set ≡ false) (asks_for 0 a)
asks_none Skip small = λ set m. elim m [ ]
asks_none Abort small = λ set m. elim m [ ]
asks_none (Tell t) small = λ set m. elim m [ ]
asks_none (Parallel a b) small = λ set m. elim m [ ]
asks_none (When t b) small = λ set m. elim m [ ]
asks_none (Next b) small = on_cons none_several (λ set m. elim m [ ])
asks_none (Unless t b) small = on_cons (one_several t (small t (Memᴰ.head refl))) (λ set m. elim m [ ])
asks_none (Call p) small = λ set m. elim m [ ]

-- pairs under no token
bare_number : (n : ℕ) → number_in (pair n 0) ≡ n
bare_number n = number_pair n 0 (lit< tt)

bare_set : (n : ℕ) → set_in (pair n 0) ≡ 0
bare_set n = set_pair n 0 (lit< tt)

procedure_bare : (p : ℕ) → number_in (pair (procedure_at p) 0) - 1024 ≡ p
procedure_bare p = omega (arith, bare_number (procedure_at p))

bare_before : (n m : ℕ) → n < m → pair n 0 < pair m 0
bare_before n m h = pair_before (pair n 0) (pair m 0) (omega (arith, bare_number n, bare_number m))

abbrev bare_agents : ℕ → List ℕ
bare_agents n = map (λ i. pair i 0) (below n)

abbrev bare_procedures : ℕ → List ℕ
bare_procedures n = map (λ p. pair (procedure_at p) 0) (below n)

agents_within : (n : ℕ) → n ≤ 1024 → Within (λ k. number_in k < 1024) (bare_agents n)
agents_within n h = on_map (λ k. number_in k < 1024) (λ i. pair i 0) (below n) (λ i m. omega (arith, bare_number i, below_lt n i m))

procedures_within : (n : ℕ) → Within (λ k. 1024 ≤ number_in k) (bare_procedures n)
procedures_within n = on_map (λ k. 1024 ≤ number_in k) (λ p. pair (procedure_at p) 0) (below n) (λ p m. omega (arith, bare_number (procedure_at p)))

agents_rise : (n : ℕ) → Rising (bare_agents n)
agents_rise n = rising_images (λ i. pair i 0) bare_before (below_rising n)

procedures_rise : (n : ℕ) → Rising (bare_procedures n)
procedures_rise n = rising_images (λ p. pair (procedure_at p) 0) (λ p q h. bare_before (procedure_at p) (procedure_at q) (omega arith)) (below_rising n)

module _ (n m : ℕ) (h : n ≤ 1024) where
  pairs_rise : Rising (bare_agents n ++ bare_procedures m)
  pairs_rise = rising_append (bare_procedures m) (agents_rise n) (procedures_rise m) (λ x a y b. pair_before x y (omega (arith, agents_within n h x a, procedures_within m y b)))

  pairs_agents : agent_places (bare_agents n ++ bare_procedures m) ≡ bare_agents n
  pairs_agents =
      keep_append _ (bare_agents n) (bare_procedures m)
      ∙ ap₂ ◌++◌ (keep_all _ (bare_agents n) (λ k a. lt-ltb (number_in k) 1024 (agents_within n h k a))) (keep_none _ (bare_procedures m) (λ k b. le-ltb (number_in k) 1024 (procedures_within m k b)))
      ∙ append-nil (bare_agents n)

  pairs_procedures : procedure_places (bare_agents n ++ bare_procedures m) ≡ bare_procedures m
  pairs_procedures =
      keep_append _ (bare_agents n) (bare_procedures m)
      ∙ ap₂ ◌++◌ (keep_none _ (bare_agents n) (λ k a. lt-leb 1024 (number_in k) (agents_within n h k a))) (keep_all _ (bare_procedures m) (λ k b. le-leb 1024 (number_in k) (procedures_within m k b)))

module _ (d : Draft) (law : LawfulDraft d) (plainly : WithoutWatches d) where
  abbrev agent_pairs : List ℕ
  agent_pairs = bare_agents (length d.agents)

  abbrev procedure_pairs : List ℕ
  procedure_pairs = bare_procedures (length d.roots)

  written_plain : (i : ℕ) → draft_agent_at d i ≡ Plain (as_when (draft_agent_at d i))
  written_plain i = go (draft_agent_at d i) refl
    where
      go : (w : DraftAgent) → draft_agent_at d i ≡ w → w ≡ Plain (as_when w)
      go (Plain a) e = refl
      go (Watch t b) e = absurd (plainly i t b e)

  target_bare : (i : ℕ) → target d i 0 ≡ pair i 0
  target_bare i = target_plain d i 0 (as_when (draft_agent_at d i)) (written_plain i)

  abbrev There : ℕ → Type 0
  There k = Memᴰ k (agent_pairs ++ procedure_pairs)

  root_known : (p : ℕ) → p < length d.roots → root_of d p < length d.agents
  root_known p h = omega (arith, law.roots_known p h, length-map d.agents as_when)

  agent_there : {i : ℕ} → i < length d.agents → There (pair i 0)
  agent_there h = Memᴰ.append_left procedure_pairs (map_member (λ i. pair i 0) (lt_below (length d.agents) h))

  procedure_there : {p : ℕ} → p < length d.roots → There (pair (procedure_at p) 0)
  procedure_there h = Memᴰ.append_right agent_pairs (map_member (λ p. pair (procedure_at p) 0) (lt_below (length d.roots) h))

  module _ (i : ℕ) (h : i < length d.agents) where
    abbrev written : Agent
    written = as_when (draft_agent_at d i)

    part_known : Within (λ b. b < length d.agents) (parts_of written)
    part_known b m = omega (arith, written_parts d law i (written_plain i) b m)

    token_small : Within (λ t. t < 256) (tokens_of written)
    token_small t m = omega (arith, written_tokens d law i (written_plain i) t m, law.tokens_at_most)

    call_known : Within (λ p. p < length d.roots) (procedures_of written)
    call_known p m = law.procedures_known i p (subst⁻¹ (λ a. Memᴰ p (procedures_of a)) (when_at d i) m)

    agent_leads_lem : leads_to d (pair i 0) ≡ agent_leads d 0 (Plain written)
    agent_leads_lem =
        leads_agent d (pair i 0) (omega (arith, bare_number i, draft_agents d law)) (ap (draft_agent_at d) (bare_number i) ∙ written_plain i)
        ∙ ap (λ set. agent_leads d set (Plain written)) (bare_set i)

    agent_closed : Among (leads_to d (pair i 0)) (agent_pairs ++ procedure_pairs)
    agent_closed =
        subst⁻¹ (λ l. Among l (agent_pairs ++ procedure_pairs)) agent_leads_lem
        (on_append (map (λ b. target d b 0) (parts_of written))
        (on_map There (λ b. target d b 0) (parts_of written) (λ b m. subst⁻¹ There (target_bare b) (agent_there (part_known b m))))
        (on_map There (λ p. pair (procedure_at p) 0) (procedures_of written) (λ p m. procedure_there (call_known p m))))

  procedure_closed : (p : ℕ) → p < length d.roots → Among (leads_to d (pair (procedure_at p) 0)) (agent_pairs ++ procedure_pairs)
  procedure_closed p h =
      let leads : leads_to d (pair (procedure_at p) 0) ≡ target d (root_of d p) 0 ∷ [] = leads_procedure d (pair (procedure_at p) 0) (omega (arith, bare_number (procedure_at p))) ∙ ap₂ (λ q set. target d (root_of d q) set ∷ []) (procedure_bare p) (bare_set (procedure_at p)) in
      subst⁻¹ (λ l. Among l (agent_pairs ++ procedure_pairs)) leads (on_cons (subst⁻¹ There (target_bare (root_of d p)) (agent_there (root_known p h))) (λ k m. elim m [ ]))

  pairs_closed : Closed d (agent_pairs ++ procedure_pairs)
  pairs_closed =
      record {
        starts = procedure_there law.some_roots;
        leads = on_append {P = λ k. Among (leads_to d k) (agent_pairs ++ procedure_pairs)} agent_pairs
            (on_map (λ k. Among (leads_to d k) (agent_pairs ++ procedure_pairs)) (λ i. pair i 0) (below (length d.agents)) (λ i m. agent_closed i (below_lt (length d.agents) i m)))
            (on_map (λ k. Among (leads_to d k) (agent_pairs ++ procedure_pairs)) (λ p. pair (procedure_at p) 0) (below (length d.roots)) (λ p m. procedure_closed p (below_lt (length d.roots) p m)));
      }

  pairs_led : AllOnPaths d → Within (Led d) (agent_pairs ++ procedure_pairs)
  pairs_led paths =
      on_append agent_pairs
      (on_map (Led d) (λ i. pair i 0) (below (length d.agents)) (λ i m. subst (Led d) (target_bare i) (stands_led_agent d law i 0 (paths.agents_on i (below_lt (length d.agents) i m)))))
      (on_map (Led d) (λ p. pair (procedure_at p) 0) (below (length d.roots)) (λ p m. stands_led_procedure d law p 0 (paths.procedures_on p (below_lt (length d.roots) p m))))

  agents_count : length agent_pairs ≡ length d.agents
  agents_count = length-map (below (length d.agents)) (λ i. pair i 0) ∙ below_length (length d.agents)

  procedures_count : length procedure_pairs ≡ length d.roots
  procedures_count = length-map (below (length d.roots)) (λ p. pair (procedure_at p) 0) ∙ below_length (length d.roots)

  pairs_fit : PlacesFit (agent_pairs ++ procedure_pairs)
  pairs_fit =
      record {
        agents_fit = omega (arith, ap length (pairs_agents (length d.agents) (length d.roots) (draft_agents d law)), agents_count, draft_agents d law);
        procedures_fit = omega (arith, ap length (pairs_procedures (length d.agents) (length d.roots) (draft_agents d law)), procedures_count, law.roots_at_most);
      }

  pairs_all : AllOnPaths d → places d ≡ agent_pairs ++ procedure_pairs
  pairs_all paths = places_unique d (agent_pairs ++ procedure_pairs) (pairs_rise (length d.agents) (length d.roots) (draft_agents d law)) (pairs_led paths) pairs_closed (fit_short (agent_pairs ++ procedure_pairs) pairs_fit)

  agent_index : (b : ℕ) → b < length d.agents → index_of (pair b 0) agent_pairs ≡ b
  agent_index b h =
      let entry : get_or agent_pairs b 0 ≡ pair b 0 = mapped_at (λ i. pair i 0) (length d.agents) b 0 h in
      ap (λ k. index_of k agent_pairs) (sym entry) ∙ at_index agent_pairs b (agents_rise (length d.agents)) (omega (arith, agents_count))

  procedure_index : (p : ℕ) → p < length d.roots → index_of (pair (procedure_at p) 0) procedure_pairs ≡ p
  procedure_index p h =
      let entry : get_or procedure_pairs p 0 ≡ pair (procedure_at p) 0 = mapped_at (λ p. pair (procedure_at p) 0) (length d.roots) p 0 h in
      ap (λ k. index_of k procedure_pairs) (sym entry) ∙ at_index procedure_pairs p (procedures_rise (length d.roots)) (omega (arith, procedures_count))

  place_kept : (b : ℕ) → b < length d.agents → stands_at d agent_pairs procedure_pairs [] 0 b ≡ b
  place_kept b h = ap (λ k. index_of k agent_pairs) (target_bare b) ∙ agent_index b h

  agent_kept : (a : Agent) → Within (λ t. t < 256) (tokens_of a) → Within (λ b. b < length d.agents) (parts_of a) → Within (λ p. p < length d.roots) (procedures_of a) → plain_agent d agent_pairs procedure_pairs [] 0 a ≡ a
  agent_kept Skip tokens parts procedures = refl
  agent_kept Abort tokens parts procedures = refl
  agent_kept (Tell t) tokens parts procedures = refl
  agent_kept (Parallel a b) tokens parts procedures = ap₂ Parallel (place_kept a (parts a (Memᴰ.head refl))) (place_kept b (parts b (Memᴰ.tail (Memᴰ.head refl))))
  agent_kept (When t b) tokens parts procedures = ap (When t) (place_kept b (parts b (Memᴰ.head refl)))
  agent_kept (Next b) tokens parts procedures = ap Next (place_kept b (parts b (Memᴰ.head refl)))
  agent_kept (Unless t b) tokens parts procedures = ap₂ Unless (asked_one d.tokens t [] (tokens t (Memᴰ.head refl))) (place_kept b (parts b (Memᴰ.head refl)))
  agent_kept (Call p) tokens parts procedures = ap Call (procedure_index p (procedures p (Memᴰ.head refl)))

  -- the agent of a pair under no token
  agent_bare : (i : ℕ) → agent_in d (pair i 0) ≡ as_when (draft_agent_at d i)
  agent_bare i = ap (λ n. as_when (draft_agent_at d n)) (bare_number i)

  agents_kept : map (λ k. plain_agent d agent_pairs procedure_pairs [] (set_in k) (agent_in d k)) agent_pairs ≡ (whens d).agents
  agents_kept = mapped (λ k. plain_agent d agent_pairs procedure_pairs [] (set_in k) (agent_in d k)) (λ i. pair i 0) (length d.agents) (whens d).agents Skip (length-map d.agents as_when) each
    where
      each : (i : ℕ) → i < length d.agents → plain_agent d agent_pairs procedure_pairs [] (set_in (pair i 0)) (agent_in d (pair i 0)) ≡ agent_at (whens d) i
      each i h = ap₂ (plain_agent d agent_pairs procedure_pairs []) (bare_set i) (agent_bare i) ∙ agent_kept (written i h) (token_small i h) (part_known i h) (call_known i h) ∙ sym (when_at d i)

  roots_kept : map (λ k. stands_at d agent_pairs procedure_pairs [] (set_in k) (root_of d (number_in k - 1024))) procedure_pairs ≡ d.roots
  roots_kept = mapped (λ k. stands_at d agent_pairs procedure_pairs [] (set_in k) (root_of d (number_in k - 1024))) (λ p. pair (procedure_at p) 0) (length d.roots) d.roots 0 refl each
    where
      each : (p : ℕ) → p < length d.roots → stands_at d agent_pairs procedure_pairs [] (set_in (pair (procedure_at p) 0)) (root_of d (number_in (pair (procedure_at p) 0) - 1024)) ≡ root_of d p
      each p h = ap₂ (λ set q. stands_at d agent_pairs procedure_pairs [] set (root_of d q)) (bare_set (procedure_at p)) (procedure_bare p) ∙ place_kept (root_of d p) (root_known p h)

  sets_none : asked_sets d agent_pairs ≡ []
  sets_none = asked_none d agent_pairs (on_map (λ k. Within (λ set. several set ≡ false) (asks_for (set_in k) (agent_in d k))) (λ i. pair i 0) (below (length d.agents)) each)
    where
      each : (i : ℕ) → Memᴰ i (below (length d.agents)) → Within (λ set. several set ≡ false) (asks_for (set_in (pair i 0)) (agent_in d (pair i 0)))
      each i m =
          let h = below_lt (length d.agents) i m in
          subst⁻¹ (Within (λ set. several set ≡ false)) (ap₂ asks_for (bare_set i) (agent_bare i)) (asks_none (written i h) (token_small i h))

  score_kept : plain_by d agent_pairs procedure_pairs [] ≡ whens d
  score_kept = λ i. record { tokens = add-zero d.tokens i; lowest_port = d.lowest_port; highest_port = d.highest_port; agents = agents_kept i; roots = roots_kept i; rules = append-nil d.rules i }

pub unchanged : Unchanged
unfolding plain_of
unchanged d law plainly paths =
    let few = draft_agents d law in
    ap (λ l. plain_by d (agent_places l) (procedure_places l) (asked_sets d (agent_places l))) (pairs_all d law plainly paths)
    ∙ ap₂ (λ agents procedures. plain_by d agents procedures (asked_sets d agents)) (pairs_agents (length d.agents) (length d.roots) few) (pairs_procedures (length d.agents) (length d.roots) few)
    ∙ ap (plain_by d (bare_agents (length d.agents)) (bare_procedures (length d.roots))) (sets_none d law plainly)
    ∙ score_kept d law plainly
