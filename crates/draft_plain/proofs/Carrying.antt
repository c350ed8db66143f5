-- The plain score of a draft has what a score needs that plays as the draft does, and starts where the draft does.
--     Standing                       a copy of an agent may stand under a set of the draft's tokens
--     place_of                        the number of the copy's agent in the plain score
--     image_at                       the image of a member stands where the member does
--     Copied                         the plain agent of a copy that is no watch, and what the copy leads to and asks for
--     copied                         there is one of each copy that may stand
--     root_at                        the root of a procedure's pair is the root's place
--     agent_carried, carried         so the agent of each copy does what the copy does
--     plain_carries                  the plain score carries the draft
--     start_standing, plain_start    the draft's first copy may stand, and its place is the plain score's first root
use mathlib.Core.Path.{◌≡◌, refl, sym, ap, ap₂, ◌∙◌, subst, subst₂}
use mathlib.Core.Bool.{true}
use mathlib.Core.List.Memᴰ
use mathlib.Core.List.{List, [], ◌∷◌, map, Memᴰ}
use mathlib.Core.Logic.{inl, inr, ⊎_elim}
use Prim.Native.Nat.{ℕ, ◌+◌, ◌-◌, ◌*◌, ◌^◌, ◌<◌, ◌≤◌}
use native.Mathlib.Nat.{mul-le-mul_right}
use native.Mathlib.Decide.{ℕ_discrete}
use native.Mathlib.Omega.{arith}
use lib.Dec.{eqb}
use lib.ListN.{length, get_or}
use borrow.Author.Tests.{eqb-true, eqb-false}
use Rattle.laws.specs.Rising.{Rising}
use Rattle.laws.proofs.Booleans.{by_test}
use Rattle.laws.proofs.Lists.{map_at, entry_member}
use Rattle.laws.proofs.Sets.{Within, on_cons}
use Rattle.tcc.specs.Score.{agent_at, tokens_of, parts_of, procedures_of}
use Rattle.tcc.specs.Score as plain
use Rattle.tcc.specs.declared.Agent.{Agent}
use Rattle.tcc.specs.declared.Agent.TheVariants.{Skip, Abort, Tell, Parallel, When, Next, Unless, Call}
use Rattle.draft_language.specs.Draft.{Draft, draft_agent_at, root_of, as_when, LawfulDraft}
use Rattle.draft_language.specs.declared.DraftAgent.{DraftAgent}
use Rattle.draft_language.specs.declared.DraftAgent.TheVariants.{Plain, Watch}
use Rattle.draft_language.proofs.Carries.{Asks, NextCarried, AgentCarried, Carried, Carries}
use Rattle.draft_pairs.specs.TokenSets.{with, several}
use Rattle.draft_plain.specs.Stands.{Stands, agent, procedure, start, root, part, called, watched}
use Rattle.draft_pairs.specs.Pairs.{pair, number_in, set_in, index_of}
use Rattle.draft_plain.specs.Places.{procedure_at, target, places}
use Rattle.draft_plain.specs.Plain.{asks_for, agent_in, asked_token, member_rules, plain_agent, stands_at, plain_of, fits}
use Rattle.draft_pairs.proofs.TokenSets.{sum_of, number_pair, set_pair, pair_parts}
use Rattle.draft_pairs.proofs.Rising.{index_below, index_at, at_index, index_order}
use Rattle.draft_plain.specs.Led.{Led}
use Rattle.draft_plain.proofs.Places.{target_plain, target_watch, stands_led_agent, stands_led_procedure, stands_bound_agent}
use Rattle.draft_plain.proofs.Copying.{PlacesFit}
use Rattle.draft_plain.proofs.PlainPairs.{draft_agents, procedure_led, agent_listed, procedure_listed}
use Rattle.draft_plain.proofs.PlainScore.{agents_in, procedures_in, sets_in, procedures_rising, fits_sizes, places_fit}
use Rattle.draft_plain.proofs.AskedLaws.{asked_listed}
use Rattle.draft_plain.proofs.Asked.{Known, token_known, known_bound, member_ruled, ruled_member, Member, member_old, member_some, sum_some, StandsFor, asked_token_lem}

abbrev pub Standing : Draft → ℕ → List ℕ → Type 0
Standing d i set = Stands d (agent i (sum_of set)) × ((t : ℕ) → Memᴰ t set → t < d.tokens)

abbrev pub place_of : Draft → ℕ → List ℕ → ℕ
place_of d i set = index_of (target d i (sum_of set)) (agents_in d)

image_at : {B : Type 0} (f : ℕ → B) (l : List ℕ) (x : B) {k : ℕ} → Memᴰ k l → get_or (map f l) (index_of k l) x ≡ f k
image_at f l x {k} m = map_at f l (index_of k l) 0 x (index_below k l m) ∙ ap f (index_at k l m)

record Copied (d : Draft) (i : ℕ) (set : List ℕ) (a : Agent) : Type 0 where
  under_known : Known d set
  tokens_known : Known d (tokens_of a)
  parts_stand : Within (λ b. Standing d b set) (parts_of a)
  procedures_stand : Within (λ p. Stands d (procedure p (sum_of set))) (procedures_of a)
  is_agent : agent_at (plain_of d) (place_of d i set) ≡ plain_agent d (agents_in d) (procedures_in d) (sets_in d) (sum_of set) a
  asked : Within (λ x. several x ≡ true → Memᴰ x (sets_in d)) (asks_for (sum_of set) a)

module _ (d : Draft) (law : LawfulDraft d) (fit : fits (plain_of d) ≡ true) where
  pairs_fit : PlacesFit (places d)
  unfolding plain_of
  pairs_fit = places_fit d (fits_sizes (plain_of d) fit)

  module _ (i : ℕ) (set : List ℕ) (a : Agent) (st : Standing d i set) (e : draft_agent_at d i ≡ Plain a) where
    pair_number : number_in (pair i (sum_of set)) ≡ i
    pair_number = number_pair i (sum_of set) (known_bound d law set st.1)

    pair_set : set_in (pair i (sum_of set)) ≡ sum_of set
    pair_set = set_pair i (sum_of set) (known_bound d law set st.1)

    pair_agent : agent_in d (pair i (sum_of set)) ≡ a
    pair_agent = ap (λ n. as_when (draft_agent_at d n)) pair_number ∙ ap as_when e

    pair_low : number_in (pair i (sum_of set)) < 1024
    pair_low = omega (arith, pair_number, (stands_bound_agent d law i (sum_of set) st.0).1, draft_agents d law)

    is_pair : target d i (sum_of set) ≡ pair i (sum_of set)
    is_pair = target_plain d i (sum_of set) a e

    pair_placed : Memᴰ (pair i (sum_of set)) (agents_in d)
    pair_placed = agent_listed d law pairs_fit (subst (Led d) is_pair (stands_led_agent d law i (sum_of set) st.0)) pair_low

    copied : Copied d i set a
    unfolding plain_of
    copied =
        record {
          under_known = st.1;
          tokens_known = token_known d law i e;
          parts_stand = λ b m. (part st.0 e m, st.1);
          procedures_stand = λ p m. called st.0 e m;
          is_agent =
              ap (λ k. agent_at (plain_of d) (index_of k (agents_in d))) is_pair
              ∙ image_at _ (agents_in d) Skip pair_placed
              ∙ ap₂ (plain_agent d (agents_in d) (procedures_in d) (sets_in d)) pair_set pair_agent;
          asked = λ x m. asked_listed d pair_placed (subst₂ (λ under b. Memᴰ x (asks_for under b)) (sym pair_set) (sym pair_agent) m);
        }

  module _ (p : ℕ) (set : List ℕ) (st : Stands d (procedure p (sum_of set))) (known : Known d set) where
    procedure_number : number_in (pair (procedure_at p) (sum_of set)) ≡ procedure_at p
    procedure_number = number_pair (procedure_at p) (sum_of set) (known_bound d law set known)

    procedure_placed : Memᴰ (pair (procedure_at p) (sum_of set)) (procedures_in d)
    procedure_placed = procedure_listed d law pairs_fit (stands_led_procedure d law p (sum_of set) st) (omega (arith, procedure_number))

    root_at : plain.root_of (plain_of d) (index_of (pair (procedure_at p) (sum_of set)) (procedures_in d)) ≡ place_of d (root_of d p) set
    unfolding plain_of
    root_at =
        let number : number_in (pair (procedure_at p) (sum_of set)) - 1024 ≡ p = omega (arith, procedure_number) in
        image_at _ (procedures_in d) 0 procedure_placed
        ∙ ap₂ (λ under q. stands_at d (agents_in d) (procedures_in d) (sets_in d) under (root_of d q)) (set_pair (procedure_at p) (sum_of set) (known_bound d law set known)) number

  asks : {u : ℕ} {set : List ℕ} → StandsFor d u set → Asks d (plain_of d) (Member d) (λ s. Unit {0}) (Standing d) (place_of d) u set
  asks stands = record { asked = λ s p ok e. (stands s p e).0; asks = λ s p ok e. (stands s p e).1 }

  next_carried : (i b : ℕ) (set : List ℕ) → Copied d i set (Next b) → NextCarried d (plain_of d) (Member d) (λ s. Unit {0}) (Standing d) (place_of d) i set b
  next_carried i b set c =
      by_test (λ a. agent_at (plain_of d) (place_of d i set) ≡ a → NextCarried d (plain_of d) (Member d) (λ s. Unit {0}) (Standing d) (place_of d) i set b) (eqb (sum_of set) 0)
      (λ none is. inl (is, λ s ok m in-set held. sum_some set m in-set (eqb-true (sum_of set) 0 none)))
      (λ some is. inr (asked_token d.tokens (sets_in d) (sum_of set), is, asks (asked_token_lem d set law c.under_known (eqb-false (sum_of set) 0 some) (c.asked (sum_of set) (Memᴰ.head refl)))))
      c.is_agent

  unless_stands : (i t b : ℕ) (set : List ℕ) → Copied d i set (Unless t b) → StandsFor d (asked_token d.tokens (sets_in d) (with t (sum_of set))) (t ∷ set)
  unless_stands i t b set c = asked_token_lem d (t ∷ set) law (on_cons (c.tokens_known t (Memᴰ.head refl)) c.under_known) (sum_some (t ∷ set) t (Memᴰ.head refl)) (c.asked (with t (sum_of set)) (Memᴰ.head refl))

  agent_carried : (i : ℕ) (set : List ℕ) (a : Agent) → Copied d i set a → AgentCarried d (plain_of d) (Member d) (λ s. Unit {0}) (Standing d) (place_of d) i set a
  agent_carried i set Skip c = c.is_agent
  agent_carried i set Abort c = c.is_agent
  agent_carried i set (Tell t) c = c.is_agent
  agent_carried i set (Parallel a b) c = (c.is_agent, c.parts_stand a (Memᴰ.head refl), c.parts_stand b (Memᴰ.tail (Memᴰ.head refl)))
  agent_carried i set (When t b) c = (c.is_agent, c.parts_stand b (Memᴰ.head refl))
  agent_carried i set (Next b) c = (next_carried i b set c, c.parts_stand b (Memᴰ.head refl))
  agent_carried i set (Unless t b) c =
      let stands = unless_stands i t b set c in
      (asked_token d.tokens (sets_in d) (with t (sum_of set)), c.is_agent, λ s p e held. (stands s p e).0 t (Memᴰ.head refl) held, asks stands, c.parts_stand b (Memᴰ.head refl))
  agent_carried i set (Call p) c =
      let at = c.procedures_stand p (Memᴰ.head refl) in
      (index_of (pair (procedure_at p) (sum_of set)) (procedures_in d), c.is_agent, root_at p set at c.under_known, (root at, c.under_known))

  carried : (i : ℕ) (set : List ℕ) (w : DraftAgent) → Standing d i set → draft_agent_at d i ≡ w → Carried d (plain_of d) (Member d) (λ s. Unit {0}) (Standing d) (place_of d) i set w
  carried i set (Plain a) st e = agent_carried i set a (copied i set a st e)
  carried i set (Watch t b) st e = (ap (λ k. index_of k (agents_in d)) (target_watch d law i (sum_of set) t b e), (watched st.0 e, on_cons (token_known d law i e t (Memᴰ.head refl)) st.1))

  pub plain_carries : Carries d (plain_of d) (Member d) (λ s. Unit {0}) (Standing d) (place_of d)
  unfolding plain_of
  plain_carries =
      record {
        lawful = law;
        tokens_more = omega arith;
        same_lowest = refl;
        same_highest = refl;
        old_rules = λ r m. Memᴰ.append_left (member_rules d.tokens (sets_in d)) m;
        new_rules = λ u m x. Memᴰ.append_right d.rules (member_ruled d.tokens (sets_in d) u m (let old : m < d.tokens = member_old d law u m x in omega (arith, law.tokens_at_most)) x);
        no_others = λ r m. ⊎_elim (λ (old : Memᴰ r d.rules). inl old) (λ (new : Memᴰ r (member_rules d.tokens (sets_in d))). inr (ruled_member d.tokens (sets_in d) r new)) (Memᴰ.append_cases d.rules m);
        members_old = member_old d law;
        members_new = λ u m x. let is : u ≡ d.tokens + x.0 = x.2 in omega arith;
        some_member = member_some d;
        carried = λ i set st. carried i set (draft_agent_at d i) st refl;
      }

-- a number that is a member of a rising list and below no member stands first
index_first : (k : ℕ) (l : List ℕ) → Rising l → Memᴰ k l → Within (λ m. k ≤ m) l → index_of k l ≡ 0
index_first k l rises at least = go (ℕ_discrete k (get_or l 0 0))
  where
    some : 0 < length l
    some = omega (arith, index_below k l at)

    go : Dec (k ≡ get_or l 0 0) → index_of k l ≡ 0
    go (yes e) = ap (λ m. index_of m l) e ∙ at_index l 0 rises some
    go (no n) =
        let le : k ≤ get_or l 0 0 = least (get_or l 0 0) (entry_member l 0 some) in
        absurd (omega (arith, at_index l 0 rises some, index_order k (get_or l 0 0) l rises at (entry_member l 0 some) (omega arith)))

product_least : (n p q s k : ℕ) → p ≤ q → q * n + s ≡ k → p * n + 0 ≤ k
product_least n p q s k h e = omega (arith, mul-le-mul_right n h)

pair_least : (p k : ℕ) → p ≤ number_in k → pair p 0 ≤ k
unfolding pair
pair_least p k h = product_least (2 ^ 256) p (number_in k) (set_in k) k h (pair_parts k)

pub start_standing : (d : Draft) → Standing d (root_of d 0) []
start_standing d = (root start, λ t m. elim m [ ])

module _ (d : Draft) (law : LawfulDraft d) (fit : fits (plain_of d) ≡ true) where
  start_first : index_of (pair (procedure_at 0) 0) (procedures_in d) ≡ 0
  start_first =
      index_first (pair (procedure_at 0) 0) (procedures_in d) (procedures_rising d)
      (procedure_placed d law fit 0 [] start (λ t m. elim m [ ]))
      (λ k at. pair_least 1024 k (procedure_led d at).1)

  pub plain_start : plain.root_of (plain_of d) 0 ≡ place_of d (root_of d 0) []
  plain_start = ap (plain.root_of (plain_of d)) (sym start_first) ∙ root_at d law fit 0 [] start (λ t m. elim m [ ])
