-- Unguarded calls, read off the sets of the agents; their circles, read off the closed rows.
--     calls_known         of a score whose words are as their places ask: its calls name its procedures
--     roots_are, few_procedures, few_agents     it has as many procedures as its head says, and no more than a head can say
--     root_below, roots_below                   and its roots are agents of it
--     call_here           a procedure whose root's set is not 0 calls one unguarded
--     calls_none          where all those sets are 0, none does
--     calls_exact         so a search through those sets says whether one does
--     none_circular       and then no procedure lies on a circle
--     marked_circular     row p marks p exactly if unguarded calls lead from p back to itself
--     lowest_marked       so the first row that marks its own procedure is that of the lowest on a circle
--     circle_here         the lowest circle from p on is p, if p lies on one
--     circle_later        else it is the lowest from p + 1 on
--     circle_none         past the last procedure there is none
--     circle_past         where no procedure below p lies on one, the lowest circle is the lowest from p on
--     lowest_here, lowest_none     the definition's circle, by the lowest procedure on one
--     circle_free         where none is found, no procedure lies on a circle
use mathlib.Core.Path.{◌≡◌, refl, sym, ap, subst, ◌∙◌}
use mathlib.Core.Bool.{Bool, true, false, cond, false≢true}
use mathlib.Core.List.{List}
use Rattle.std.specs.Prelude.{Option, MatchOption, ◌≢◌}
use Rattle.std.specs.List.{range_with_len, HoldsAt, AllWithin}
use Rattle.std.proofs.Common.{None, Some, MatchBool}
use Rattle.std.proofs.lemmas.List.FromFn.{length-range_with_len, get_or-range_with_len}
use Prim.Native.Nat.{ℕ, zero, suc, ◌+◌, ◌-◌, ◌^◌, ◌<◌, ◌≤◌}
use native.Mathlib.Nat.{not-suc-le-zero, le_of_suc-le-suc, add-zero, zero-add, add-suc, suc-add, sub-zero}
use native.Mathlib.Omega.{arith}
use native.Mathlib.Numerals.{add-one}
use lib.ListN.{length, get_or}
use Rattle.tcc.specs.Score.{Score, root_of}
use Rattle.tcc.specs.Unguarded.{Leads, Reaches, circular, one as one_call, more as more-calls}
use Rattle.tcc.proofs.Unguarded.{CallsKnown, leads_known, circular_exact, call_free}
use Rattle.format.specs.declared.Sizes.{Sizes}
use Rattle.format.specs.Decode.{sizes, decode}
use Rattle.format.proofs.Decode.{decode_roots, sizes_few}
use Rattle.check_verdicts.specs.Verdict.{Verdict, Accepted, Circle}
use Rattle.check_verdicts.specs.Verdicts.{verdict_number}
use Rattle.check_faults.specs.Faultless.{Faultless}
use Rattle.check_faults.proofs.Accepted.{procedures_known, roots_known}
use Rattle.check_calls.specs.Calls.{Exactly, called, Direct, Linked, one, more, Closed, in_set, Gathered}
use Rattle.check_calls.proofs.ProcedureSets.{in_set_none, in_set_some}
use Rattle.check_circles.specs.Circles.{circle_from}
use Rattle.check_circles.specs.Lowest.{UnguardedCall, LowestOnCircle, NoneOnCircle, LowestCircular}

same_truth : (a b : Bool) → (a ≡ true → b ≡ true) → (b ≡ true → a ≡ true) → a ≡ b
same_truth true b f g = sym (f refl)
same_truth false true f g = g refl
same_truth false false f g = refl

pub calls_known : (s : List ℕ) → Faultless s → CallsKnown (decode s)
calls_known s h i p m = omega (arith, procedures_known s h i p m, decode_roots s h.enough)

module _ (s : List ℕ) (h : Faultless s) (head : Sizes) (e : head ≡ sizes s) where
  pub roots_are : length (decode s).roots ≡ head.procedures
  roots_are = decode_roots s h.enough ∙ sym (ap (λ k. k.procedures) e)

  pub few_procedures : head.procedures ≤ 64
  few_procedures = omega (arith, ap (λ k. k.procedures) e, sizes_few s)

  pub few_agents : head.agents ≤ 1024
  few_agents = omega (arith, ap (λ k. k.agents) e, sizes_few s)

  pub root_below : (p : ℕ) → p < head.procedures → root_of (decode s) p < head.agents
  root_below p lt = omega (arith, ap (λ k. k.agents) e, roots_known s h p (omega (arith, ap (λ k. k.procedures) e)))

  pub roots_below : (p : ℕ) → p < length (decode s).roots → root_of (decode s) p < head.agents
  roots_below p lt = root_below p (omega (arith, roots_are))

module _ (sc : Score) (n : ℕ) (sets : List ℕ) (gathered : Gathered sc n sets) (rooted : (p : ℕ) → p < length sc.roots → root_of sc p < n) where
  pub call_here : (p : ℕ) → p < length sc.roots → get_or sets (root_of sc p) 0 < 2 ^ 64 → (get_or sets (root_of sc p) 0 ≡ 0 → ⊥) → UnguardedCall sc
  call_here p lt small some =
      let held = in_set_some 64 (get_or sets (root_of sc p) 0) small some in
      record { caller = p; known = lt; callee = held.0; leads = (gathered.exact (root_of sc p) held.0 (rooted p lt) held.1).0 held.2 }

  pub calls_none : CallsKnown sc → length sc.roots ≤ 64 → ((p : ℕ) → p < length sc.roots → get_or sets (root_of sc p) 0 ≡ 0) → UnguardedCall sc → ⊥
  calls_none known few none call =
      let q = call.callee in
      let root = root_of sc call.caller in
      let held : in_set (get_or sets root 0) q ≡ true = (gathered.exact root q (rooted call.caller call.known) (omega (arith, leads_known known call.leads))).1 call.leads in
      false≢true (sym (in_set_none q) ∙ ap (λ x. in_set x q) (sym (none call.caller call.known)) ∙ held)

  -- the answer of a search through the roots for a set that is not 0
  pub calls_exact : CallsKnown sc → length sc.roots ≤ 64 → ((r : ℕ) → get_or sets r 0 < 2 ^ 64) →
      (m : ℕ) → length sc.roots ≡ m → (found : Bool) →
      MatchBool found
      ((k : ℕ) × (k < length (range_with_len 0 m)) × HoldsAt (λ p. get_or sets (root_of sc p) 0 ≢ 0) (range_with_len 0 m) k)
      (AllWithin (λ p. get_or sets (root_of sc p) 0 ≡ 0) (range_with_len 0 m) 0 (length (range_with_len 0 m))) →
      Exactly found (UnguardedCall sc)
  calls_exact known few small m count true (k, lt, some) =
      let within : k < m = omega (arith, length-range_with_len 0 m) in
      (λ e. call_here k (omega arith) (small (root_of sc k)) (rw (get_or-range_with_len, zero-add) at (some 0)), λ call. refl)
  calls_exact known few small m count false none = (
    λ e. absurd (false≢true e),
    λ call. absurd (calls_none known few zeros call),
  )
    where
      zeros : (p : ℕ) → p < length sc.roots → get_or sets (root_of sc p) 0 ≡ 0
      zeros p lt =
          let within : p < m = omega arith in
          rw (get_or-range_with_len, zero-add) at (none p 0 (omega arith) (omega (arith, length-range_with_len 0 m)))

pub none_circular : (sc : Score) → CallsKnown sc → (UnguardedCall sc → ⊥) → NoneOnCircle sc
none_circular sc known none = record { all = λ p lt. call_free sc known p (λ q l. none (record { caller = p; known = lt; callee = q; leads = l })) }

module _ (sc : Score) (n : ℕ) (count : length sc.roots ≡ n) (few : n ≤ 64) (known : CallsKnown sc) (m : List (List Bool)) (direct : Direct sc m) where
  led : (p q : ℕ) → p < n → q < 64 → called m p q ≡ true → Leads sc (root_of sc p) q
  led p q lp lq e = (direct.exact p q (omega arith) lq).0 e

  calls : (p q : ℕ) → p < n → Leads sc (root_of sc p) q → called m p q ≡ true
  calls p q lp l = (direct.exact p q (omega arith) (omega (arith, leads_known known l))).1 l

  linked_reaches : (p q : ℕ) → p < n → q < n → Linked n m p q → Reaches sc p q
  linked_reaches p q lp lq (one e) = one_call (led p q lp (omega arith) e)
  linked_reaches p q lp lq (more {q = j} lj e rest) = more-calls (led p j lp (omega arith) e) (linked_reaches j q lj lq rest)

  reaches_linked : (p q : ℕ) → p < n → Reaches sc p q → Linked n m p q
  reaches_linked p q lp (one_call l) = one (calls p q lp l)
  reaches_linked p q lp (more-calls {q = j} l rest) =
      let lj : j < n = omega (arith, leads_known known l) in
      more lj (calls p j lp l) (reaches_linked j q lj rest)

  pub marked_circular : (r : List (List Bool)) → Closed n m r → (p : ℕ) → p < n → called r p p ≡ circular sc p
  marked_circular r closed p lp =
      same_truth (called r p p) (circular sc p)
      (λ e. (circular_exact sc known p).1 (linked_reaches p p lp lp ((closed.exact p p lp (omega arith)).0 e)))
      (λ e. (closed.exact p p lp (omega arith)).1 (reaches_linked p p lp ((circular_exact sc known p).0 e)))

  pub lowest_marked : (r : List (List Bool)) → Closed n m r → (o : Option ℕ) →
      MatchOption o ((k : ℕ) → 0 ≤ k → k < n → called r k k ≡ false)
      (λ p. (0 ≤ p) × (p < n) × (called r p p ≡ true) × ((k : ℕ) → 0 ≤ k → k < p → called r k k ≡ false)) →
      LowestCircular sc o
  lowest_marked r closed None h = record { all = λ j lt. sym (marked_circular r closed j (omega arith)) ∙ h j (omega arith) (omega arith) }
  lowest_marked r closed (Some p) h =
      record {
        known = omega arith;
        below = λ j lt. sym (marked_circular r closed j (omega arith)) ∙ h.3 j (omega arith) lt;
        here = sym (marked_circular r closed p h.1) ∙ h.2;
      }

circle_here : (sc : Score) (p n : ℕ) → p < n → circular sc p ≡ true → circle_from sc p (n - p) ≡ Circle p
unfolding circle_from
circle_here sc p n lt e =
    let k : n - p ≡ suc (n - (p + 1)) = omega arith in
    rw k (ap (λ here. cond here (Circle p) (circle_from sc (suc p) (n - (p + 1)))) e)

circle_later : (sc : Score) (p n : ℕ) → p < n → circular sc p ≡ false → circle_from sc p (n - p) ≡ circle_from sc (p + 1) (n - (p + 1))
unfolding circle_from
circle_later sc p n lt e = let k : n - p ≡ suc (n - (p + 1)) = omega arith in rw (k, e) (ap (λ j. circle_from sc j (n - (p + 1))) (sym (add-one p)))

circle_none : (sc : Score) (p n : ℕ) → n ≤ p → circle_from sc p (n - p) ≡ Accepted
unfolding circle_from
circle_none sc p n le = let k : n - p ≡ 0 = omega arith in rw k

circle_past : (sc : Score) (p n : ℕ) → p ≤ n → ((j : ℕ) → j < p → circular sc j ≡ false) → circle_from sc 0 n ≡ circle_from sc p (n - p)
circle_past sc zero n le below = ap (circle_from sc 0) (sym (sub-zero n))
circle_past sc (suc p) n le below =
    circle_past sc p n (omega arith) (λ j lt. below j (omega arith))
    ∙ circle_later sc p n (omega arith) (below p (omega arith))
    ∙ ap (λ j. circle_from sc j (n - j)) (add-one p)

pub lowest_here : (sc : Score) (p : ℕ) → LowestOnCircle sc p → circle_from sc 0 (length sc.roots) ≡ Circle p
lowest_here sc p low =
    let n = length sc.roots in
    circle_past sc p n (omega (arith, low.known)) low.below ∙ circle_here sc p n low.known low.here

pub lowest_none : (sc : Score) → NoneOnCircle sc → circle_from sc 0 (length sc.roots) ≡ Accepted
lowest_none sc none =
    let n = length sc.roots in
    circle_past sc n n (omega arith) none.all ∙ circle_none sc n n (omega arith)

not_here : (b : Bool) (p : ℕ) (v : Verdict) → cond b (Circle p) v ≡ Accepted → (b ≡ false) × (v ≡ Accepted)
not_here true p v e = let z : ◌≡◌ {A = ℕ} 7 0 = ap verdict_number e in absurd (omega arith)
not_here false p v e = (refl, e)

pub circle_free : (sc : Score) (p n : ℕ) → circle_from sc p n ≡ Accepted → (j : ℕ) → j < n → circular sc (p + j) ≡ false
unfolding circle_from
circle_free sc p zero e j lt = absurd (not-suc-le-zero lt)
circle_free sc p (suc n) e zero lt = rw add-zero (not_here (circular sc p) p (circle_from sc (suc p) n) e).0
circle_free sc p (suc n) e (suc j) lt =
    let r : circular sc (suc p + j) ≡ false = circle_free sc (suc p) n (not_here (circular sc p) p (circle_from sc (suc p) n) e).1 j (le_of_suc-le-suc lt) in
    subst (λ i. circular sc i ≡ false) (suc-add p j ∙ sym (add-suc p j)) r
