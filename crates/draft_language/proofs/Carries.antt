-- What a plain score has that plays as a draft does: the interface between the orders of a draft and a translation.
--     Extends       a store of the plain score beside the draft's: the same old tokens, and a new token where a member of its
--                   set is in
--     member_rule   the rule that brings a new token from a member of its set
--     Asks          a token of the plain score stands for a set: at quiet it is in where a token of the set is
--     NextCarried, AgentCarried, Carried     the plain agent of a copy does what the copy does; a watch's is its body's
--     Carries       so for every copy that stands under its set, and the rules, tokens and ports are as they should be
--     places_of      the plain agents of copies
--     OkEnd, OkEnds, StandingAll     of a chain: its quiet stores, its copies
--     CarriedOver   what the chains of a draft then show
use mathlib.Core.Path.{◌≡◌}
use mathlib.Core.List.{List, [], ◌∷◌, map, Memᴰ}
use mathlib.Core.Logic.{◌⊎◌}
use Prim.Native.Nat.{ℕ, ◌<◌, ◌≤◌}
use Rattle.laws.specs.Sets.{Same}
use Rattle.tcc.specs.Closure.{Rule}
use Rattle.tcc.specs.Score.{Score, agent_at}
use Rattle.tcc.specs.Score as plain
use Rattle.tcc.specs.Instant.{running}
use Rattle.tcc.specs.declared.Agent.{Agent}
use Rattle.tcc.specs.declared.Agent.TheVariants.{Skip, Abort, Tell, Parallel, When, Next, Unless, Call}
use Rattle.journal_words.specs.History.{history}
use Rattle.draft_language.specs.Draft.{Draft, draft_agent_at, root_of, LawfulDraft}
use Rattle.draft_language.specs.Order.{Copy, End, aborted, left}
use Rattle.draft_language.specs.Chain.{InputsKnown, Chain, shown}
use Rattle.draft_language.specs.declared.DraftAgent.{DraftAgent}
use Rattle.draft_language.specs.declared.DraftAgent.TheVariants.{Plain, Watch}

-- `Member u m`: the new token u has the member m
pub record Extends (d : Draft) (Member : ℕ → ℕ → Type 0) (s p : List ℕ) : Type 0 where
  pub old : (t : ℕ) → Memᴰ t s → Memᴰ t p
  pub back : (t : ℕ) → t < d.tokens → Memᴰ t p → Memᴰ t s
  pub new : (u m : ℕ) → Member u m → Memᴰ m s → Memᴰ u p
  pub from_new : (u : ℕ) → d.tokens ≤ u → Memᴰ u p → (m : ℕ) × Member u m × Memᴰ m s

abbrev pub member_rule : ℕ → ℕ → Rule ℕ
member_rule u m = record { premises = m ∷ m ∷ []; conclusion = u }

-- `place i set`: the plain agent of a copy of agent i under a set
abbrev pub places_of : (ℕ → List ℕ → ℕ) → List Copy → List ℕ
places_of place copies = map (λ c. place c.agent c.under) copies

-- `Ok s`: what is asked of the store of a quiet instant; `Standing i set`: a copy of agent i may stand under a set
module _ (d : Draft) (sc : Score) (Member : ℕ → ℕ → Type 0) (Ok : List ℕ → Type 0) (Standing : ℕ → List ℕ → Type 0) (place : ℕ → List ℕ → ℕ) where
  pub record Asks (u : ℕ) (set : List ℕ) : Type 0 where
    pub asked : (s p : List ℕ) → Ok s → Extends d Member s p → (m : ℕ) → Memᴰ m set → Memᴰ m s → Memᴰ u p
    pub asks : (s p : List ℕ) → Ok s → Extends d Member s p → Memᴰ u p → (m : ℕ) × Memᴰ m set × Memᴰ m s

  -- a next that no token of the set can stop, or an unless on the set
  abbrev pub NextCarried : ℕ → List ℕ → ℕ → Type 0
  NextCarried i set b =
      ((agent_at sc (place i set) ≡ Next (place b set)) × ((s : List ℕ) → Ok s → (m : ℕ) → Memᴰ m set → Memᴰ m s → ⊥))
      ⊎ ((u : ℕ) × (agent_at sc (place i set) ≡ Unless u (place b set)) × Asks u set)

  abbrev pub AgentCarried : ℕ → List ℕ → Agent → Type 0
  AgentCarried i set Skip = agent_at sc (place i set) ≡ Skip
  AgentCarried i set Abort = agent_at sc (place i set) ≡ Abort
  AgentCarried i set (Tell t) = agent_at sc (place i set) ≡ Tell t
  AgentCarried i set (Parallel a b) = (agent_at sc (place i set) ≡ Parallel (place a set) (place b set)) × Standing a set × Standing b set
  AgentCarried i set (When t b) = (agent_at sc (place i set) ≡ When t (place b set)) × Standing b set
  AgentCarried i set (Next b) = NextCarried i set b × Standing b set
  AgentCarried i set (Unless t b) = (u : ℕ) × (agent_at sc (place i set) ≡ Unless u (place b set)) × ((s p : List ℕ) → Extends d Member s p → Memᴰ t s → Memᴰ u p) × Asks u (t ∷ set) × Standing b set
  AgentCarried i set (Call p) = (q : ℕ) × (agent_at sc (place i set) ≡ Call q) × (plain.root_of sc q ≡ place (root_of d p) set) × Standing (root_of d p) set

  abbrev pub Carried : ℕ → List ℕ → DraftAgent → Type 0
  Carried i set (Plain a) = AgentCarried i set a
  Carried i set (Watch t b) = (place i set ≡ place b (t ∷ set)) × Standing b (t ∷ set)

  pub record Carries : Type 0 where
    pub lawful : LawfulDraft d
    pub tokens_more : d.tokens ≤ sc.tokens
    pub same_lowest : sc.lowest_port ≡ d.lowest_port
    pub same_highest : sc.highest_port ≡ d.highest_port
    pub old_rules : (r : Rule ℕ) → Memᴰ r d.rules → Memᴰ r sc.rules
    pub new_rules : (u m : ℕ) → Member u m → Memᴰ (member_rule u m) sc.rules
    pub no_others : (r : Rule ℕ) → Memᴰ r sc.rules → Memᴰ r d.rules ⊎ ((u : ℕ) × (m : ℕ) × Member u m × (r ≡ member_rule u m))
    pub members_old : (u m : ℕ) → Member u m → m < d.tokens
    pub members_new : (u m : ℕ) → Member u m → d.tokens ≤ u
    pub some_member : (u : ℕ) → d.tokens ≤ u → u < sc.tokens → (m : ℕ) × Member u m
    pub carried : (i : ℕ) (set : List ℕ) → Standing i set → Carried i set (draft_agent_at d i)

  abbrev pub OkEnd : End → Type 0
  OkEnd aborted = Unit {0}
  OkEnd (left l s) = Ok s

  abbrev pub OkEnds : List End → Type 0
  OkEnds ends = (e : End) → Memᴰ e ends → OkEnd e

  abbrev pub StandingAll : List Copy → Type 0
  StandingAll copies = (c : Copy) → Memᴰ c copies → Standing c.agent c.under

  abbrev pub CarriedOver : Type 0
  CarriedOver =
      Carries → (copies : List Copy) (agents : List ℕ) (instants : List (List ℕ)) (ends : List End) →
      Chain d copies instants ends → OkEnds ends → InputsKnown d.tokens instants → StandingAll copies → Same (places_of place copies) agents →
      shown d instants ends ≡ history sc (running agents) instants
