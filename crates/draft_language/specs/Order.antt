-- The orders of an instant of a draft, literally. They share nothing with the translation.
--     Copy             an agent, and the set of watch tokens that this copy of it stands under
--     Item             a copy in the multiset: of an agent under its set, or of an input token's tell
--     Pick x l k       one copy x is picked from the multiset l, and k is left
--     Step             one reduction. "Each reduction of document 01 hands the set on; a watch goes, in one step and in the
--                      same instant, to its body under its set with its token added."
--     End              how an order ends: at an abort, or with what is left and the store
--     Order            from a multiset and a store: the copies reduced, in order, and how it ends or where it breaks off
--     Quiet            no copy can be reduced
--     Finished         at an abort, or quiet
--     watched          a token of a set is in the store
--     agent_wakes, wakes    the body that an agent still there would have awake next: of a next or of an unless
--     awake_next       "the body of a next or of an unless still there is awake next, under its set, if no token of that set
--                      is in the store; otherwise it is gone"
--     start            the multiset that an instant starts with
use Rattle.std.specs.Prelude.{◌≡◌, Bool, cond, ℕ}
use mathlib.Core.List.{List, [], ◌∷◌, ◌++◌, map, Memᴰ}
use Rattle.laws.specs.Sets.{any, has}
use Rattle.tcc.specs.Store.{Closes}
use Rattle.tcc.specs.declared.Agent.{Agent}
use Rattle.tcc.specs.declared.Agent.TheVariants.{Skip, Abort, Tell, Parallel, When, Next, Unless, Call}
use Rattle.draft_language.specs.Draft.{Draft, draft_agent_at, root_of, whens}
use Rattle.draft_language.specs.declared.DraftAgent.{DraftAgent}
use Rattle.draft_language.specs.declared.DraftAgent.TheVariants.{Plain, Watch}

pub record Copy : Type 0 where
  pub agent : ℕ
  pub under : List ℕ

pub data Item : Type 0 where
  copy : ℕ → List ℕ → Item
  input : ℕ → Item

pub data Pick (x : Item) : List Item → List Item → Type 0 where
  here : {l : List Item} → Pick x (x ∷ l) l
  there : {y : Item} {l k : List Item} → Pick x l k → Pick x (y ∷ l) (y ∷ k)

pub data Step (d : Draft) : Item → List Item → List ℕ → List Item → List ℕ → Type 0 where
  skip : {i : ℕ} {set : List ℕ} {l k : List Item} {s : List ℕ} → Pick (copy i set) l k → draft_agent_at d i ≡ Plain Skip → Step d (copy i set) l s k s
  tell : {i t : ℕ} {set : List ℕ} {l k : List Item} {s s' : List ℕ} → Pick (copy i set) l k → draft_agent_at d i ≡ Plain (Tell t) → Closes (whens d) (t ∷ s) s' → Step d (copy i set) l s k s'
  input_tell : {t : ℕ} {l k : List Item} {s s' : List ℕ} → Pick (input t) l k → Closes (whens d) (t ∷ s) s' → Step d (input t) l s k s'
  parallel : {i a b : ℕ} {set : List ℕ} {l k : List Item} {s : List ℕ} → Pick (copy i set) l k → draft_agent_at d i ≡ Plain (Parallel a b) → Step d (copy i set) l s (copy a set ∷ copy b set ∷ k) s
  call : {i p : ℕ} {set : List ℕ} {l k : List Item} {s : List ℕ} → Pick (copy i set) l k → draft_agent_at d i ≡ Plain (Call p) → Step d (copy i set) l s (copy (root_of d p) set ∷ k) s
  when : {i t b : ℕ} {set : List ℕ} {l k : List Item} {s : List ℕ} → Pick (copy i set) l k → draft_agent_at d i ≡ Plain (When t b) → Memᴰ t s → Step d (copy i set) l s (copy b set ∷ k) s
  unless : {i t b : ℕ} {set : List ℕ} {l k : List Item} {s : List ℕ} → Pick (copy i set) l k → draft_agent_at d i ≡ Plain (Unless t b) → Memᴰ t s → Step d (copy i set) l s k s
  watch : {i t b : ℕ} {set : List ℕ} {l k : List Item} {s : List ℕ} → Pick (copy i set) l k → draft_agent_at d i ≡ Watch t b → Step d (copy i set) l s (copy b (t ∷ set) ∷ k) s

-- an abort ends the instant with an empty store and no agent; otherwise what is left in the multiset, and the store
pub data End : Type 0 where
  aborted : End
  left : List Item → List ℕ → End

-- the length of an order is the number of copies that it reduced
pub data Order (d : Draft) : List Item → List ℕ → List Item → End → Type 0 where
  stop : {l : List Item} {s : List ℕ} → Order d l s [] (left l s)
  step : {x : Item} {l k more : List Item} {s s' : List ℕ} {e : End} → Step d x l s k s' → Order d k s' more e → Order d l s (x ∷ more) e
  abort : {i : ℕ} {set : List ℕ} {l k : List Item} {s : List ℕ} → Pick (copy i set) l k → draft_agent_at d i ≡ Plain Abort → Order d l s (copy i set ∷ []) aborted

pub record Quiet (d : Draft) (l : List Item) (s : List ℕ) : Type 0 where
  pub no_step : (x : Item) (k : List Item) (s' : List ℕ) → Step d x l s k s' → ⊥
  pub no_abort : (i : ℕ) (set : List ℕ) (k : List Item) → Pick (copy i set) l k → draft_agent_at d i ≡ Plain Abort → ⊥

abbrev pub Finished : Draft → End → Type 0
Finished d aborted = Unit {0}
Finished d (left l s) = Quiet d l s

abbrev pub watched : List ℕ → List ℕ → Bool
watched s set = any (λ t. has t s) set

abbrev pub agent_wakes : List ℕ → Agent → List Copy
agent_wakes set Skip = []
agent_wakes set Abort = []
agent_wakes set (Tell t) = []
agent_wakes set (Parallel a b) = []
agent_wakes set (When t b) = []
agent_wakes set (Next b) = record { agent = b; under = set } ∷ []
agent_wakes set (Unless t b) = record { agent = b; under = set } ∷ []
agent_wakes set (Call p) = []

abbrev pub wakes : List ℕ → DraftAgent → List Copy
wakes set (Plain a) = agent_wakes set a
wakes set (Watch t b) = []

abbrev pub awake_next : Draft → List ℕ → List Item → List Copy
awake_next d s [] = []
awake_next d s (copy i set ∷ l) = cond (watched s set) [] (wakes set (draft_agent_at d i)) ++ awake_next d s l
awake_next d s (input t ∷ l) = awake_next d s l

abbrev pub start : List Copy → List ℕ → List Item
start copies inputs = map (λ c. copy c.agent c.under) copies ++ map input inputs
