-- Contracts of inner functions: the interface for engines. An engine keeps marks: which agents are live, which tokens are
-- held. Marks that only ever follow from what an instant starts with are sound; marks that nothing can be added to are
-- closed. Sound and closed marks are the instant's answer, and sound marks that show a live abort are an aborted instant,
-- closed or not.
--     Closed         marks hold the start and are closed under each agent's effect, the rules and the clash
--     Reach          marks that the instant itself makes: they are closed
--     Sound          every mark is one of the instant's
--     Settles        sound and closed marks, with no live abort, give the instant's store, status, agents reduced, agents awake
--     Aborts         sound marks with a live abort give the aborted answer
--     StaysKnown     the next state's agents are the score's, and the store's tokens are below T
use Rattle.std.specs.Prelude.{◌≡◌, ℕ, ◌<◌}
use mathlib.Core.List.{List, Memᴰ}
use Rattle.laws.specs.Sets.{Same}
use Rattle.tcc.specs.Closure.{Rule}
use Rattle.tcc.specs.Score.{Score, agent_at, root_of}
use Rattle.tcc.specs.Lawful.{Lawful, AgentsBelow}
use Rattle.tcc.specs.Instant.{live, held, reached, instant, aborted_answer, left_awake, reduced_of, Answer}
use Rattle.tcc.specs.declared.Agent.TheVariants.{Abort, Tell, Parallel, When, Call}

pub record Closed (sc : Score) (agents inputs : List ℕ) (Live Held : ℕ → Type 0) : Type 0 where
  pub begins : (i : ℕ) → Memᴰ i agents → Live i
  pub told : (t : ℕ) → Memᴰ t inputs → Held t
  pub tells : (i t : ℕ) → Live i → agent_at sc i ≡ Tell t → Held t
  pub splits : (i a b : ℕ) → Live i → agent_at sc i ≡ Parallel a b → Live a × Live b
  pub calls : (i p : ℕ) → Live i → agent_at sc i ≡ Call p → Live (root_of sc p)
  pub awaits : (i t b : ℕ) → Live i → agent_at sc i ≡ When t b → Held t → Live b
  pub rules : (r : Rule ℕ) → Memᴰ r sc.rules → ((p : ℕ) → Memᴰ p r.premises → Held p) → Held r.conclusion
  pub clash : (t : ℕ) → Held 0 → t < sc.tokens → Held t

pub record Sound (sc : Score) (agents inputs : List ℕ) (Live Held : ℕ → Type 0) : Type 0 where
  pub lives : (i : ℕ) → Live i → Memᴰ (live i) (reached sc agents inputs)
  pub holds : (t : ℕ) → Held t → Memᴰ (held t) (reached sc agents inputs)

abbrev pub Reach : Type 0
Reach =
    (sc : Score) (agents inputs : List ℕ) →
    Closed sc agents inputs (λ i. Memᴰ (live i) (reached sc agents inputs)) (λ t. Memᴰ (held t) (reached sc agents inputs))

-- marks as lists, that is, sets
abbrev pub Marked : List ℕ → ℕ → Type 0
Marked l n = Memᴰ n l

pub record Settled (sc : Score) (lives store : List ℕ) (a : Answer) : Type 0 where
  pub unaborted : a.status ≡ 2 → ⊥
  pub clash : Memᴰ 0 store → a.status ≡ 1
  pub no_clash : (Memᴰ 0 store → ⊥) → a.status ≡ 0
  pub same_store : Same store a.store
  pub same_reduced : reduced_of sc store lives ≡ a.reduced
  pub same_awake : Same (left_awake sc store lives) a.awake

abbrev pub Settles : Type 0
Settles =
    (sc : Score) (agents inputs lives store : List ℕ) →
    Sound sc agents inputs (Marked lives) (Marked store) → Closed sc agents inputs (Marked lives) (Marked store) →
    ((i : ℕ) → Memᴰ i lives → agent_at sc i ≡ Abort → ⊥) →
    Settled sc lives store (instant sc agents inputs)

abbrev pub Aborts : Type 0
Aborts =
    (sc : Score) (agents inputs lives store : List ℕ) → Sound sc agents inputs (Marked lives) (Marked store) →
    (i : ℕ) → Memᴰ i lives → agent_at sc i ≡ Abort → instant sc agents inputs ≡ aborted_answer

abbrev pub StaysKnown : Type 0
StaysKnown =
    (sc : Score) (agents inputs : List ℕ) → Lawful sc → AgentsBelow sc agents → ((t : ℕ) → Memᴰ t inputs → t < sc.tokens) →
    AgentsBelow sc (instant sc agents inputs).awake × ((t : ℕ) → Memᴰ t (instant sc agents inputs).store → t < sc.tokens)
