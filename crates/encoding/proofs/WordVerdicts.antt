-- What the score check finds, by the places of words.
--     length_fits, count_fits     a length that does not meet 1, a count that does not meet 3
--     agent_place_lem, root_place, rule_place  a word is judged by its place
--     none_from         where each member is below n, none is n or more
--     at_accepted       a word of the form of its place that names and refers to what there is meets none of 4, 5 and 6
--     at_formed, agent_formed     a word that meets none of them is of that form
--     faultless_append, faultless_map     lists no word of which meets one
use mathlib.Core.Path.{◌≡◌, refl}
use mathlib.Core.Bool.{Bool, true, false}
use mathlib.Core.List.Memᴰ
use mathlib.Core.List.{List, [], ◌∷◌, ◌++◌, map}
use Prim.Native.Nat.{ℕ, zero, suc, ◌+◌, ◌-◌, ◌%◌, ◌<◌, ◌≤◌}
use native.Mathlib.Nat.{add-zero}
use native.Mathlib.Omega.{arith}
use borrow.Author.Tests.{lt-ltb, le-ltb, lt-leb, eq-eqb, ne_eqb}
use lib.Dec.{leb}
use lib.ListN.{length, get_or}
use Rattle.std.proofs.Common.{Option, Some, None}
use Rattle.laws.specs.Sets.{any}
use Rattle.laws.proofs.Sets.{Within}
use Rattle.tcc.specs.declared.Agent.{Agent}
use Rattle.format.specs.declared.Sizes.{Sizes}
use Rattle.format.specs.Format.{decode_agent, agent_in}
use Rattle.check_verdicts.specs.Verdict.{Accepted, Form}
use Rattle.check_verdicts.proofs.Verdicts.{refused, both_accepted}
use Rattle.check_words.specs.WordFaults.{at_word, agent_verdict, root_verdict, rule_verdict}
use Rattle.check_faults.specs.Faults.{length_verdict, count_verdict, word_verdict, first_fault}

pub length_fits : (n : ℕ) → 1 ≤ n → n % 4 ≡ 0 → n ≤ 5384 → length_verdict n ≡ Accepted
length_fits n some whole most = rw (ne_eqb n 0 (λ z. omega arith), eq-eqb (n % 4) 0 whole, le-ltb 5384 n most)

pub count_fits : (h : Sizes) (n : ℕ) → 2 + h.agents + h.procedures ≤ n → n ≤ 2 + h.agents + h.procedures + 256 → count_verdict h n ≡ Accepted
count_fits h n least most = rw (le-ltb n (2 + h.agents + h.procedures) least, le-ltb (2 + h.agents + h.procedures + 256) n most)

module _ (h : Sizes) (k w : ℕ) where
  pub agent_place_lem : 2 ≤ k → k < 2 + h.agents → word_verdict h k w ≡ agent_verdict h (k - 2) (decode_agent w)
  unfolding word_verdict
  agent_place_lem from to = rw (le-ltb k 2 from, lt-ltb k (2 + h.agents) to)

  pub root_place : 2 + h.agents ≤ k → k < 2 + h.agents + h.procedures → word_verdict h k w ≡ root_verdict h k w
  unfolding word_verdict
  root_place from to = rw (le-ltb k 2 (omega arith), le-ltb k (2 + h.agents) from, lt-ltb k (2 + h.agents + h.procedures) to)

  pub rule_place : 2 + h.agents + h.procedures ≤ k → word_verdict h k w ≡ rule_verdict h k w
  unfolding word_verdict
  rule_place from = rw (le-ltb k 2 (omega arith), le-ltb k (2 + h.agents) (omega arith), le-ltb k (2 + h.agents + h.procedures) from)

pub none_from : (n : ℕ) (l : List ℕ) → Within (λ t. t < n) l → any (λ t. leb n t) l ≡ false
none_from n [] h = refl
none_from n (x ∷ l) h = rw (lt-leb n x (h x (Memᴰ.head refl))) (none_from n l (λ t m. h t (Memᴰ.tail m)))

pub at_accepted : (h : Sizes) (k : ℕ) {formed : Bool} (tokens : List ℕ) {astray : Bool} →
    formed ≡ true → Within (λ t. t < h.tokens) tokens → astray ≡ false → at_word h k formed tokens astray ≡ Accepted
at_accepted h k tokens f known a = rw (f, none_from h.tokens tokens known, a)

pub at_formed : (h : Sizes) (k : ℕ) (formed : Bool) (tokens : List ℕ) (astray : Bool) → at_word h k formed tokens astray ≡ Accepted → formed ≡ true
at_formed h k true tokens astray e = refl
at_formed h k false tokens astray e = refused (Form k) (λ z. omega arith) e

pub agent_formed : (h : Sizes) (i : ℕ) (d : Option Agent) → agent_verdict h i d ≡ Accepted → d ≡ Some (agent_in d)
agent_formed h i (Some a) e = refl
agent_formed h i None e = refused (Form (2 + i)) (λ z. omega arith) e

pub faultless_append : (h : Sizes) (k : ℕ) (ws vs : List ℕ) → first_fault h k ws ≡ Accepted → first_fault h (k + length ws) vs ≡ Accepted → first_fault h k (ws ++ vs) ≡ Accepted
unfolding first_fault
faultless_append h k [] vs e f = rw add-zero at f
faultless_append h k (w ∷ ws) vs e f =
    let b = both_accepted (word_verdict h k w) (first_fault h (suc k) ws) e in
    let shift : k + suc (length ws) ≡ suc k + length ws = omega arith in
    rw b.0 (faultless_append h (suc k) ws vs b.1 (rw shift at f))

pub faultless_map : {A : Type 0} (f : A → ℕ) (l : List A) (d : A) (h : Sizes) (k : ℕ) → ((i n : ℕ) → n ≡ k + i → i < length l → word_verdict h n (f (get_or l i d)) ≡ Accepted) → first_fault h k (map f l) ≡ Accepted
unfolding first_fault
faultless_map f [] d h k fine = refl
faultless_map f (x ∷ l) d h k fine = rw (fine zero k (omega arith) (omega arith)) (faultless_map f l d h (suc k) (λ i n e lt. fine (suc i) n (omega arith) (omega arith)))
