-- Contracts of inner functions: what the tables hold in which the check gathers unguarded calls, a set of procedures for
-- each agent, as the bits of a number, and 64 rows of 64 flags, a row for each procedure.
--     in_set          whether a procedure is in a set
--     leads_by       whether an agent leads to a procedure, by the sets of the agents below it
--     Gathered       the set of each agent below n holds the procedures that it leads to
--     called         whether row p has q marked
--     Direct         row p marks the procedures that p calls unguarded
--     Stepped        row p takes over what row k marks, if it marks k; rows from n on stay
--     Linked         one or more marks lead from p to q
--     Closed         row p marks what one or more marks led to before; rows from n on stay
use Rattle.std.specs.Prelude.{◌≡◌, Bool, true, false, ◌&&◌, ◌||◌, List, [], ℕ, ◌/◌, ◌%◌, ◌^◌, ◌<◌, ◌≤◌, eqb, length, get_or}
use Rattle.tcc.specs.Score.{Score, root_of}
use Rattle.tcc.specs.Unguarded.{Leads}
use Rattle.tcc.specs.declared.Agent.{Agent}
use Rattle.tcc.specs.declared.Agent.TheVariants.{Skip, Abort, Tell, Parallel, When, Next, Unless, Call}

abbrev pub Exactly : Bool → Type 0 → Type 0
Exactly b A = (b ≡ true → A) × (A → b ≡ true)

unfoldable pub in_set : ℕ → ℕ → Bool
in_set x q = eqb (x / 2 ^ q % 2) 1

abbrev pub leads_by : Agent → List ℕ → ℕ → Bool
leads_by Skip sets q = false
leads_by Abort sets q = false
leads_by (Tell t) sets q = false
leads_by (Parallel a b) sets q = in_set (get_or sets a 0) q || in_set (get_or sets b 0) q
leads_by (When t b) sets q = in_set (get_or sets b 0) q
leads_by (Next b) sets q = false
leads_by (Unless t b) sets q = false
leads_by (Call p) sets q = eqb p q

pub record Gathered (sc : Score) (n : ℕ) (sets : List ℕ) : Type 0 where
  pub exact : (i q : ℕ) → i < n → q < 64 → Exactly (in_set (get_or sets i 0) q) (Leads sc i q)

abbrev pub called : List (List Bool) → ℕ → ℕ → Bool
called rows p q = get_or (get_or rows p []) q false

pub record Direct (sc : Score) (rows : List (List Bool)) : Type 0 where
  pub long : length rows ≡ 64
  pub exact : (p q : ℕ) → p < length sc.roots → q < 64 → Exactly (called rows p q) (Leads sc (root_of sc p) q)

pub record Stepped (n k : ℕ) (before after : List (List Bool)) : Type 0 where
  pub long : length after ≡ length before
  pub exact : (p q : ℕ) → p < n → q < 64 → called after p q ≡ (called before p q || (called before p k && called before k q))
  pub rest : (p : ℕ) → n ≤ p → get_or after p [] ≡ get_or before p []

pub data Linked (n : ℕ) (rows : List (List Bool)) : ℕ → ℕ → Type 0 where
  one : {p q : ℕ} → called rows p q ≡ true → Linked n rows p q
  more : {p q r : ℕ} → q < n → called rows p q ≡ true → Linked n rows q r → Linked n rows p r

pub record Closed (n : ℕ) (before after : List (List Bool)) : Type 0 where
  pub long : length after ≡ length before
  pub exact : (p q : ℕ) → p < n → q < 64 → Exactly (called after p q) (Linked n before p q)
  pub rest : (p : ℕ) → n ≤ p → get_or after p [] ≡ get_or before p []
