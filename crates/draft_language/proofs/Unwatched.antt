-- In a history in which no watch token is ever in the store, a draft shows what it shows with every watch read as its body.
--     goes_on, within_plain, within_watch, within_same    the equations of `body_within`; any bound above the agent is enough
--     body_plain, body_watch     the equations of `body_of`, without its bound
--     read_at, root_read         the agents and the roots of the draft so read
--     NoMember, Clear, Under, place     how it stands beside the draft: there are no new tokens, no watch token is in a quiet
--                                store, a copy stands under watch tokens, and its agent is what its reference means
--     never_ok                   the quiet stores of a history in which no watch token is ever in are clear
--     asks_own                   an unless asks for its own token; none of its set's is in a clear store
--     agent_read, read_carried, unwatched_carries     so the draft so read plays as the draft does
--     start_under, start_read    it starts as the draft does, under no token
--     unwatched_shown            the theorem
use mathlib.Core.Path.{◌≡◌, refl, ap, ◌∙◌}
use mathlib.Core.List.{List, [], ◌∷◌, Memᴰ}
use mathlib.Core.Logic.{inl}
use Prim.Native.Nat.{ℕ, zero, suc, ◌<◌}
use native.Mathlib.Omega.{arith}
use lib.ListN.{length, get_or-map}
use Rattle.laws.specs.Sets.{Same}
use Rattle.laws.proofs.Lists.{map_at}
use Rattle.laws.proofs.Sets.{Within, on_cons, same_refl}
use Rattle.tcc.specs.Score.{agent_at}
use Rattle.tcc.specs.Score as plain
use Rattle.tcc.specs.declared.Agent.{Agent}
use Rattle.tcc.specs.declared.Agent.TheVariants.{Skip, Abort, Tell, Parallel, When, Next, Unless, Call}
use Rattle.tcc.proofs.Multiset.{call_known}
use Rattle.draft_language.specs.Draft.{Draft, draft_agent_at, root_of, as_when, whens, LawfulDraft}
use Rattle.draft_language.specs.Order.{End, aborted, left}
use Rattle.draft_language.specs.Chain.{start_copies}
use Rattle.draft_language.specs.Unwatched.{body_within, body_of, read_on, unwatched, WatchToken, NeverIn, Unwatched}
use Rattle.draft_language.specs.declared.DraftAgent.{DraftAgent}
use Rattle.draft_language.specs.declared.DraftAgent.TheVariants.{Plain, Watch}
use Rattle.draft_language.proofs.Carries.{Asks, AgentCarried, Carried, Carries, places_of, OkEnds, StandingAll}
use Rattle.draft_language.proofs.Whens.{when_is, token_known, body_lower}
use Rattle.draft_language.proofs.Carried.{carried_over}

abbrev NoMember : ℕ → ℕ → Type 0
NoMember u m = ⊥

module _ (d : Draft) where
  -- a turn of `body_within`, over any agent in place of agent i
  abbrev goes_on : ℕ → ℕ → DraftAgent → ℕ
  goes_on n i w = elim w [ Plain a ↦ i | Watch t b ↦ body_within d n b ]

  within_plain : (n i : ℕ) {a : Agent} → draft_agent_at d i ≡ Plain a → body_within d n i ≡ i
  within_plain zero i e = refl
  within_plain (suc n) i e = ap (goes_on n i) e

  within_watch : (n i : ℕ) {t b : ℕ} → draft_agent_at d i ≡ Watch t b → body_within d (suc n) i ≡ body_within d n b
  within_watch n i e = ap (goes_on n i) e

  module _ (law : LawfulDraft d) where
    within_same : (n m i : ℕ) → i < n → i < m → body_within d n i ≡ body_within d m i
    within_same zero m i h k = absurd (omega arith)
    within_same (suc n) zero i h k = absurd (omega arith)
    within_same (suc n) (suc m) i h k = go (draft_agent_at d i) refl (λ b lt. within_same n m b (omega arith) (omega arith))
      where
        go : (w : DraftAgent) → draft_agent_at d i ≡ w → ((b : ℕ) → b < i → body_within d n b ≡ body_within d m b) → goes_on n i w ≡ goes_on m i w
        go (Plain a) e body = refl
        go (Watch t b) e body = body b (body_lower d law i e)

    body_watch : (i : ℕ) {t b : ℕ} → draft_agent_at d i ≡ Watch t b → body_of d i ≡ body_of d b
    unfolding body_of
    body_watch i {t} {b} e = within_watch i i e ∙ within_same i (suc b) b (body_lower d law i e) (omega arith)

  body_plain : (i : ℕ) {a : Agent} → draft_agent_at d i ≡ Plain a → body_of d i ≡ i
  unfolding body_of
  body_plain i e = within_plain (suc i) i e

  read_at : (i : ℕ) {a : Agent} → draft_agent_at d i ≡ Plain a → agent_at (unwatched d) (body_of d i) ≡ read_on d a
  unfolding unwatched
  read_at i e = rw (body_plain i e) (get_or-map (λ w. read_on d (as_when w)) d.agents i (Plain Skip) ∙ ap (λ w. read_on d (as_when w)) e)

  root_read : (p : ℕ) → p < length d.roots → plain.root_of (unwatched d) p ≡ body_of d (root_of d p)
  unfolding unwatched
  root_read p h = map_at (body_of d) d.roots p 0 0 h

  abbrev Clear : List ℕ → Type 0
  Clear s = (t : ℕ) → WatchToken d t → Memᴰ t s → ⊥

  abbrev Under : ℕ → List ℕ → Type 0
  Under i set = Within (WatchToken d) set

  abbrev place : ℕ → List ℕ → ℕ
  place i set = body_of d i

  never_ok : {ends : List End} → NeverIn d ends → OkEnds d (unwatched d) NoMember Clear Under place ends
  never_ok never aborted m = tt
  never_ok never (left l s) m = never l s m

module _ (d : Draft) (law : LawfulDraft d) where
  asks_own : (t : ℕ) (set : List ℕ) → t < d.tokens → Within (WatchToken d) set → Asks d (unwatched d) NoMember (Clear d) (Under d) (place d) t (t ∷ set)
  asks_own t set known watches = record {
    asked = λ s p clear extends. on_cons {P = λ m. Memᴰ m s → Memᴰ t p} (extends.old t) (λ m at held. absurd (clear m (watches m at) held));
    asks = λ s p clear extends held. (t, Memᴰ.head refl, extends.back t known held);
  }

  agent_read : (i : ℕ) (set : List ℕ) (a : Agent) → Within (WatchToken d) set → draft_agent_at d i ≡ Plain a → AgentCarried d (unwatched d) NoMember (Clear d) (Under d) (place d) i set a
  agent_read i set Skip watches e = read_at d i e
  agent_read i set Abort watches e = read_at d i e
  agent_read i set (Tell t) watches e = read_at d i e
  agent_read i set (Parallel a b) watches e = (read_at d i e, watches, watches)
  agent_read i set (When t b) watches e = (read_at d i e, watches)
  agent_read i set (Next b) watches e = (inl (read_at d i e, λ s clear m at. clear m (watches m at)), watches)
  agent_read i set (Unless t b) watches e = (t, read_at d i e, λ s p extends. extends.old t, asks_own t set (token_known d law i e t (Memᴰ.head refl)) watches, watches)
  agent_read i set (Call p) watches e = (p, read_at d i e, root_read d p (call_known (whens d) law i p (when_is d i e)), watches)

  read_carried : (i : ℕ) (set : List ℕ) (w : DraftAgent) → Within (WatchToken d) set → draft_agent_at d i ≡ w → Carried d (unwatched d) NoMember (Clear d) (Under d) (place d) i set w
  read_carried i set (Plain a) watches e = agent_read i set a watches e
  read_carried i set (Watch t b) watches e = (body_watch d law i e, on_cons (i, b, e) watches)

  unwatched_carries : Carries d (unwatched d) NoMember (Clear d) (Under d) (place d)
  unfolding unwatched
  unwatched_carries = record {
    lawful = law;
    tokens_more = omega arith;
    same_lowest = refl;
    same_highest = refl;
    old_rules = λ r m. m;
    new_rules = λ u m none. absurd none;
    no_others = λ r m. inl m;
    members_old = λ u m none. absurd none;
    members_new = λ u m none. absurd none;
    some_member = λ u high low. absurd (omega arith);
    carried = λ i set watches. read_carried i set (draft_agent_at d i) watches refl;
  }

  start_under : StandingAll d (unwatched d) NoMember (Clear d) (Under d) (place d) (start_copies d)
  start_under = let none : Within (WatchToken d) [] = λ t m. elim m [ ] in on_cons none (λ c m. elim m [ ])

  start_read : Same (places_of (place d) (start_copies d)) (plain.root_of (unwatched d) 0 ∷ [])
  start_read = rw (root_read d 0 law.some_roots) (same_refl (body_of d (root_of d 0) ∷ []))

pub unwatched_shown : Unwatched
unwatched_shown d instants ends law known chain never =
    carried_over d (unwatched d) NoMember (Clear d) (Under d) (place d) (unwatched_carries d law) (start_copies d) (plain.root_of (unwatched d) 0 ∷ []) instants ends chain
    (never_ok d never) known (start_under d law) (start_read d law)
