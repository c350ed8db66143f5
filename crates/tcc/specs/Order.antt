-- The orders of an instant, literally: each step picks any one copy to which a reduction applies, and reduces it.
-- Nothing here is used by the instant that computes (Instant), and nothing of it is used here.
--     Item             a copy in the multiset: of an agent, or of an input token's tell
--     Pick x l k       one copy x is picked from the multiset l, and k is left
--     Step             one reduction: the copy picked, the multiset and the store before, and both after
--     Order            from a multiset and a store: the copies reduced, in order, and how it ends or where it breaks off
--     Quiet            no copy can be reduced
--     Finished         at an abort, or quiet
--     awake_next       "one copy of the body for each copy of a next or unless still there"
--     start            the multiset that an instant starts with
use Rattle.std.specs.Prelude.{◌≡◌, ℕ}
use mathlib.Core.List.{List, [], ◌∷◌, ◌++◌, map, Memᴰ}
use Rattle.tcc.specs.Score.{Score, agent_at, root_of}
use Rattle.tcc.specs.Store.{Closes}
use Rattle.tcc.specs.declared.Agent.{Agent}
use Rattle.tcc.specs.declared.Agent.TheVariants.{Skip, Abort, Tell, Parallel, When, Next, Unless, Call}

pub data Item : Type 0 where
  agent : ℕ → Item
  input : ℕ → Item

pub data Pick (x : Item) : List Item → List Item → Type 0 where
  here : {l : List Item} → Pick x (x ∷ l) l
  there : {y : Item} {l k : List Item} → Pick x l k → Pick x (y ∷ l) (y ∷ k)

pub data Step (sc : Score) : Item → List Item → List ℕ → List Item → List ℕ → Type 0 where
  skip : {i : ℕ} {l k : List Item} {s : List ℕ} → Pick (agent i) l k → agent_at sc i ≡ Skip → Step sc (agent i) l s k s
  tell : {i t : ℕ} {l k : List Item} {s s' : List ℕ} → Pick (agent i) l k → agent_at sc i ≡ Tell t → Closes sc (t ∷ s) s' → Step sc (agent i) l s k s'
  input_tell : {t : ℕ} {l k : List Item} {s s' : List ℕ} → Pick (input t) l k → Closes sc (t ∷ s) s' → Step sc (input t) l s k s'
  parallel : {i a b : ℕ} {l k : List Item} {s : List ℕ} → Pick (agent i) l k → agent_at sc i ≡ Parallel a b → Step sc (agent i) l s (agent a ∷ agent b ∷ k) s
  call : {i p : ℕ} {l k : List Item} {s : List ℕ} → Pick (agent i) l k → agent_at sc i ≡ Call p → Step sc (agent i) l s (agent (root_of sc p) ∷ k) s
  when : {i t b : ℕ} {l k : List Item} {s : List ℕ} → Pick (agent i) l k → agent_at sc i ≡ When t b → Memᴰ t s → Step sc (agent i) l s (agent b ∷ k) s
  unless : {i t b : ℕ} {l k : List Item} {s : List ℕ} → Pick (agent i) l k → agent_at sc i ≡ Unless t b → Memᴰ t s → Step sc (agent i) l s k s

-- an abort ends the instant with an empty store and no agent; otherwise what is left in the multiset, and the store
pub data End : Type 0 where
  aborted : End
  left : List Item → List ℕ → End

-- the length of an order is the number of copies that it reduced
pub data Order (sc : Score) : List Item → List ℕ → List Item → End → Type 0 where
  stop : {l : List Item} {s : List ℕ} → Order sc l s [] (left l s)
  step : {x : Item} {l k more : List Item} {s s' : List ℕ} {e : End} → Step sc x l s k s' → Order sc k s' more e → Order sc l s (x ∷ more) e
  abort : {i : ℕ} {l k : List Item} {s : List ℕ} → Pick (agent i) l k → agent_at sc i ≡ Abort → Order sc l s (agent i ∷ []) aborted

pub record Quiet (sc : Score) (l : List Item) (s : List ℕ) : Type 0 where
  pub no_step : (x : Item) (k : List Item) (s' : List ℕ) → Step sc x l s k s' → ⊥
  pub no_abort : (i : ℕ) (k : List Item) → Pick (agent i) l k → agent_at sc i ≡ Abort → ⊥

abbrev pub Finished : Score → End → Type 0
Finished sc aborted = Unit {0}
Finished sc (left l s) = Quiet sc l s

abbrev pub wakes : Agent → List ℕ
wakes Skip = []
wakes Abort = []
wakes (Tell t) = []
wakes (Parallel a b) = []
wakes (When t b) = []
wakes (Next b) = b ∷ []
wakes (Unless t b) = b ∷ []
wakes (Call p) = []

abbrev pub awake_next : Score → List Item → List ℕ
awake_next sc [] = []
awake_next sc (agent i ∷ l) = wakes (agent_at sc i) ++ awake_next sc l
awake_next sc (input t ∷ l) = awake_next sc l

abbrev pub start : List ℕ → List ℕ → List Item
start agents inputs = map agent agents ++ map input inputs
