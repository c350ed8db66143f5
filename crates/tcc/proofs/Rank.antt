-- A rank that falls from an agent to the agents that its weight is made of: by the procedures that it comes to, then by
-- its number. So equations that give a value to an agent from those of such agents have one solution.
--     counted               how many numbers below n pass a test
--     counted_most, counted_le, counted_lt     at most n; more where the test passes more
--     needs                 the agents that the weight of an agent is made of
--     meets                 whether an agent comes to a procedure, computed
--     rank, deep, rank_most     the rank, and its bound
--     needs_fall            of an accepted score: what an agent needs is known and has a lower rank
--     unfolded_solves       unfolded so deep the equations are solved
--     solution_unfolded     and every solution is that unfolding
use mathlib.Core.Path.{◌≡◌, refl, sym, ◌∙◌}
use mathlib.Core.Bool.{Bool, true, false, cond}
use mathlib.Core.List.Memᴰ
use mathlib.Core.List.{List, [], ◌∷◌}
use Prim.Native.Nat.{ℕ, zero, suc, ◌+◌, ◌*◌, ◌<◌, ◌≤◌}
use native.Mathlib.Nat.{suc-mul, mul-le-mul_right}
use native.Mathlib.Decide.{ℕ_discrete}
use native.Mathlib.Omega.{arith}
use lib.ListN.{length}
use Rattle.laws.specs.Sets.{any}
use Rattle.laws.proofs.Booleans.{true_is_false}
use Rattle.laws.proofs.Sets.{Within, on_cons}
use Rattle.tcc.specs.Score.{Score, agent_at, root_of}
use Rattle.tcc.specs.Lawful.{Lawful}
use Rattle.tcc.specs.Unguarded.{procedure, same_met, met_from}
use Rattle.tcc.specs.declared.Agent.{Agent}
use Rattle.tcc.specs.declared.Agent.TheVariants.{Skip, Abort, Tell, Parallel, When, Next, Unless, Call}
use Rattle.tcc.proofs.Closure.{any_same, same_any}
use Rattle.tcc.proofs.Multiset.{part_lower, call_known, root_below}
use Rattle.tcc.proofs.Unguarded.{Comes, comes_first, comes_second, comes_body, comes_call, comes_on, comes_reaches, met_decides, met_comes, comes_met}

abbrev pub counted : (ℕ → Bool) → ℕ → ℕ
counted f zero = 0
counted f (suc n) = cond (f n) 1 0 + counted f n

bit_most : (a : Bool) → cond a 1 0 ≤ 1
bit_most true = omega arith
bit_most false = omega arith

bit_le : (a b : Bool) → (a ≡ true → b ≡ true) → cond a 1 0 ≤ cond b 1 0
bit_le true true h = omega arith
bit_le true false h = absurd (true_is_false (h refl) refl)
bit_le false true h = omega arith
bit_le false false h = omega arith

pub counted_most : (f : ℕ → Bool) (n : ℕ) → counted f n ≤ n
counted_most f zero = omega arith
counted_most f (suc n) = omega (arith, bit_most (f n), counted_most f n)

module _ (f g : ℕ → Bool) (h : (q : ℕ) → f q ≡ true → g q ≡ true) where
  pub counted_le : (n : ℕ) → counted f n ≤ counted g n
  counted_le zero = omega arith
  counted_le (suc n) = omega (arith, bit_le (f n) (g n) (h n), counted_le n)

  pub counted_lt : {p : ℕ} → f p ≡ false → g p ≡ true → (n : ℕ) → p < n → counted f n < counted g n
  counted_lt {p} out within zero l = absurd (omega arith)
  counted_lt {p} out within (suc n) l = go (ℕ_discrete p n) (counted_lt out within n)
    where
      go : Dec (p ≡ n) → (p < n → counted f n < counted g n) → counted f (suc n) < counted g (suc n)
      go (yes e) rest = let a : f n ≡ false = rw (← e) out in let b : g n ≡ true = rw (← e) within in rw (a, b) (omega (arith, counted_le n))
      go (no d) rest = let lt : p < n = omega arith in omega (arith, rest lt, bit_le (f n) (g n) (h n))

abbrev pub needs : Score → Agent → List ℕ
needs sc Skip = []
needs sc Abort = []
needs sc (Tell t) = []
needs sc (Parallel a b) = a ∷ b ∷ []
needs sc (When t b) = b ∷ []
needs sc (Next b) = []
needs sc (Unless t b) = []
needs sc (Call p) = root_of sc p ∷ []

pub meets : Score → ℕ → ℕ → Bool
meets sc i q = any (same_met (procedure q)) (met_from sc i)

abbrev pub deep : Score → ℕ
deep sc = suc (length sc.roots) * length sc.agents

pub rank : Score → ℕ → ℕ
rank sc i = counted (meets sc i) (length sc.roots) * length sc.agents + i

module _ (sc : Score) (law : Lawful sc) where
  meets_comes : (i q : ℕ) → meets sc i q ≡ true → Comes sc i q
  unfolding meets
  meets_comes i q e = met_comes sc i (any_same same_met met_decides (procedure q) (met_from sc i) e)

  comes_meets : {i q : ℕ} → Comes sc i q → meets sc i q ≡ true
  unfolding meets
  comes_meets c = same_any same_met met_decides (comes_met sc law.procedures_known c)

  no_circle_meets : (p : ℕ) → p < length sc.roots → meets sc (root_of sc p) p ≡ false
  no_circle_meets p h = go (meets sc (root_of sc p) p) refl
    where
      go : (b : Bool) → meets sc (root_of sc p) p ≡ b → b ≡ false
      go true e = absurd (law.no_circle p h (comes_reaches sc (meets_comes (root_of sc p) p e)))
      go false e = refl

  part_rank : (i b : ℕ) → b < i → ((q : ℕ) → Comes sc b q → Comes sc i q) → rank sc b < rank sc i
  unfolding rank
  part_rank i b h f =
      let le : counted (meets sc b) (length sc.roots) ≤ counted (meets sc i) (length sc.roots) = counted_le (meets sc b) (meets sc i) (λ q e. comes_meets (f q (meets_comes b q e))) (length sc.roots) in
      omega (arith, mul-le-mul_right (length sc.agents) le)

  root_rank : (i p : ℕ) → agent_at sc i ≡ Call p → rank sc (root_of sc p) < rank sc i
  unfolding rank
  root_rank i p e =
      let known : p < length sc.roots = call_known sc law i p e in
      let lt : counted (meets sc (root_of sc p)) (length sc.roots) < counted (meets sc i) (length sc.roots) = counted_lt (meets sc (root_of sc p)) (meets sc i) (λ q h. comes_meets (comes_on (comes_call sc i e) (comes_reaches sc (meets_comes (root_of sc p) q h)))) (no_circle_meets p known) (comes_meets (comes_call sc i e)) (length sc.roots) known in
      omega (arith, mul-le-mul_right (length sc.agents) lt, suc-mul (counted (meets sc (root_of sc p)) (length sc.roots)) (length sc.agents), law.roots_known p known)

  rank_most : (i : ℕ) → i < length sc.agents → rank sc i < deep sc
  unfolding rank
  rank_most i h = omega (arith, mul-le-mul_right (length sc.agents) (counted_most (meets sc i) (length sc.roots)), suc-mul (length sc.roots) (length sc.agents))

  body_fall : (i b : ℕ) → i < length sc.agents → b < i → ((q : ℕ) → Comes sc b q → Comes sc i q) → (rank sc b < rank sc i) × (b < length sc.agents)
  body_fall i b known h f = (part_rank i b h f, omega arith)

  needs_fall_at : (i : ℕ) (a : Agent) → i < length sc.agents → agent_at sc i ≡ a → Within (λ b. (rank sc b < rank sc i) × (b < length sc.agents)) (needs sc a)
  needs_fall_at i Skip h e = λ b m. elim m [ ]
  needs_fall_at i Abort h e = λ b m. elim m [ ]
  needs_fall_at i (Tell t) h e = λ b m. elim m [ ]
  needs_fall_at i (Parallel a b) h e = on_cons (body_fall i a h (part_lower sc law i e a (Memᴰ.head refl)) (λ q c. comes_first sc i e c)) (on_cons (body_fall i b h (part_lower sc law i e b (Memᴰ.tail (Memᴰ.head refl))) (λ q c. comes_second sc i e c)) (λ b m. elim m [ ]))
  needs_fall_at i (When t b) h e = on_cons (body_fall i b h (part_lower sc law i e b (Memᴰ.head refl)) (λ q c. comes_body sc i e c)) (λ b m. elim m [ ])
  needs_fall_at i (Next b) h e = λ b m. elim m [ ]
  needs_fall_at i (Unless t b) h e = λ b m. elim m [ ]
  needs_fall_at i (Call p) h e = on_cons (root_rank i p e, root_below sc law i p e) (λ b m. elim m [ ])

  pub needs_fall : (i : ℕ) → i < length sc.agents → Within (λ b. (rank sc b < rank sc i) × (b < length sc.agents)) (needs sc (agent_at sc i))
  needs_fall i h = needs_fall_at i (agent_at sc i) h refl

-- `right` gives the value of an agent from those of what it needs; `unfolded n` is the equations unfolded n deep
module _ (sc : Score) (law : Lawful sc) (right : (ℕ → ℕ) → Agent → ℕ) (agrees : (v w : ℕ → ℕ) (a : Agent) → Within (λ b. v b ≡ w b) (needs sc a) → right v a ≡ right w a) where
  solution_falls : (v w : ℕ → ℕ) (i : ℕ) → i < length sc.agents → ((b : ℕ) → rank sc b < rank sc i → b < length sc.agents → v b ≡ w b) → right v (agent_at sc i) ≡ right w (agent_at sc i)
  solution_falls v w i h lower = agrees v w (agent_at sc i) (λ b m. lower b (needs_fall sc law i h b m).0 (needs_fall sc law i h b m).1)

  module _ (unfolded : ℕ → ℕ → ℕ) (unfolds : (n i : ℕ) → unfolded (suc n) i ≡ right (unfolded n) (agent_at sc i)) where
    steady : (n m i : ℕ) → i < length sc.agents → rank sc i < n → rank sc i < m → unfolded n i ≡ unfolded m i
    steady zero m i h p q = absurd (omega arith)
    steady (suc n) zero i h p q = absurd (omega arith)
    steady (suc n) (suc m) i h p q = unfolds n i ∙ solution_falls (unfolded n) (unfolded m) i h (λ b r k. steady n m b k (omega arith) (omega arith)) ∙ sym (unfolds m i)

    pub unfolded_solves : (i : ℕ) → i < length sc.agents → unfolded (deep sc) i ≡ right (unfolded (deep sc)) (agent_at sc i)
    unfolded_solves i h = let r = rank_most sc law i h in steady (deep sc) (suc (deep sc)) i h (omega arith) (omega arith) ∙ unfolds (deep sc) i

    module _ (v : ℕ → ℕ) (solves : (i : ℕ) → i < length sc.agents → v i ≡ right v (agent_at sc i)) where
      solution_within : (n i : ℕ) → i < length sc.agents → rank sc i < n → v i ≡ unfolded n i
      solution_within zero i h p = absurd (omega arith)
      solution_within (suc n) i h p = solves i h ∙ solution_falls v (unfolded n) i h (λ b r k. solution_within n b k (omega arith)) ∙ sym (unfolds n i)

      pub solution_unfolded : (i : ℕ) → i < length sc.agents → v i ≡ unfolded (deep sc) i
      solution_unfolded i h = solution_within (deep sc) i h (rank_most sc law i h)
