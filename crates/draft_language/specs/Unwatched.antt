-- "In a history in which no watch token is ever in the store, the draft's journal is that of the draft with every watch read
-- as its body."
--     body_within, body_of    the agent that a reference means where each watch on its way is read as its body
--     read_on          an agent, its references so read
--     unwatched       the draft with every watch so read: no reference leads to a watch any more
--     WatchToken      some watch of the draft watches for a token
--     NeverIn         no watch token is in the store of a quiet instant of a chain
--     Unwatched       the claim
use Rattle.std.specs.Prelude.{◌≡◌, ℕ, zero, suc}
use mathlib.Core.List.{List, map, Memᴰ}
use Rattle.tcc.specs.Score.{Score}
use Rattle.tcc.specs.Instant.{start_state}
use Rattle.tcc.specs.declared.Agent.{Agent}
use Rattle.tcc.specs.declared.Agent.TheVariants.{Skip, Abort, Tell, Parallel, When, Next, Unless, Call}
use Rattle.journal_words.specs.History.{history}
use Rattle.draft_language.specs.Draft.{Draft, draft_agent_at, as_when, LawfulDraft}
use Rattle.draft_language.specs.Order.{Item, End, left}
use Rattle.draft_language.specs.Chain.{InputsKnown, Chain, start_copies, shown}
use Rattle.draft_language.specs.declared.DraftAgent.TheVariants.{Plain, Watch}

-- n bounds the watches passed: a body has a lower number than its agent
abbrev pub body_within : Draft → ℕ → ℕ → ℕ
body_within d zero i = i
body_within d (suc n) i = elim (draft_agent_at d i) [ Plain a ↦ i | Watch t b ↦ body_within d n b ]

unfoldable pub body_of : Draft → ℕ → ℕ
body_of d i = body_within d (suc i) i

abbrev pub read_on : Draft → Agent → Agent
read_on d Skip = Skip
read_on d Abort = Abort
read_on d (Tell t) = Tell t
read_on d (Parallel a b) = Parallel (body_of d a) (body_of d b)
read_on d (When t b) = When t (body_of d b)
read_on d (Next b) = Next (body_of d b)
read_on d (Unless t b) = Unless t (body_of d b)
read_on d (Call p) = Call p

unfoldable pub unwatched : Draft → Score
unwatched d =
    record {
      tokens = d.tokens;
      lowest_port = d.lowest_port;
      highest_port = d.highest_port;
      agents = map (λ w. read_on d (as_when w)) d.agents;
      roots = map (body_of d) d.roots;
      rules = d.rules;
    }

abbrev pub WatchToken : Draft → ℕ → Type 0
WatchToken d t = (i : ℕ) × (b : ℕ) × (draft_agent_at d i ≡ Watch t b)

abbrev pub NeverIn : Draft → List End → Type 0
NeverIn d ends = (l : List Item) (s : List ℕ) → Memᴰ (left l s) ends → (t : ℕ) → WatchToken d t → Memᴰ t s → ⊥

abbrev pub Unwatched : Type 0
Unwatched =
    (d : Draft) (instants : List (List ℕ)) (ends : List End) → LawfulDraft d → InputsKnown d.tokens instants →
    Chain d (start_copies d) instants ends → NeverIn d ends →
    shown d instants ends ≡ history (unwatched d) (start_state (unwatched d)) instants
