-- Whether bytes are no state, by their first word.
--     fault_running, fault_aborted, fault_other
--     by_first_word      so one of these three decides
use mathlib.Core.Path.{◌≡◌, refl, sym}
use mathlib.Core.Bool.{Bool, true, false, ◌||◌, or-false}
use mathlib.Core.List.{List}
use mathlib.Core.Logic.{by_cases}
use Prim.Native.Nat.{ℕ}
use native.Mathlib.Decide.{ℕ_discrete}
use borrow.Author.Tests.{ne_eqb, le-leb}
use native.Mathlib.Omega.{arith}
use lib.Dec.{leb}
use Rattle.laws.specs.Sets.{any}
use Rattle.laws.proofs.Sets.{any_some, some_any}
use Rattle.words.specs.Word.{word_at}
use Rattle.lent.specs.States.{running_word, aborted_word, agents_in, state_fault}

-- a test that passes only where a second one does adds nothing to it
or_within : (a b : Bool) → (a ≡ true → b ≡ true) → (a || b) ≡ b
or_within true b h = sym (h refl)
or_within false b h = refl

from_zero : (n : ℕ) (l : List ℕ) → any (λ i. leb n i) l ≡ true → any (λ i. leb 0 i) l ≡ true
from_zero n l e = let found = any_some (λ i. leb n i) l e in some_any (λ i. leb 0 i) found.1 (le-leb 0 found.0 (omega arith))

module _ (n : ℕ) (s : List ℕ) where
  pub fault_running : word_at s 0 ≡ running_word → any (λ i. leb n i) (agents_in s) ≡ state_fault n s
  unfolding state_fault
  fault_running e = rw e (sym (or-false (any (λ i. leb n i) (agents_in s))))

  pub fault_aborted : word_at s 0 ≡ aborted_word → any (λ i. leb 0 i) (agents_in s) ≡ state_fault n s
  unfolding state_fault
  fault_aborted e = rw e (sym (or_within (any (λ i. leb n i) (agents_in s)) (any (λ i. leb 0 i) (agents_in s)) (from_zero n (agents_in s))))

  pub fault_other : (word_at s 0 ≡ running_word → ⊥) → (word_at s 0 ≡ aborted_word → ⊥) → true ≡ state_fault n s
  unfolding state_fault
  fault_other p q = rw (ne_eqb (word_at s 0) running_word p, ne_eqb (word_at s 0) aborted_word q)

pub by_first_word : {A : Type 0} (s : List ℕ) → (word_at s 0 ≡ running_word → A) → (word_at s 0 ≡ aborted_word → A) → ((word_at s 0 ≡ running_word → ⊥) → (word_at s 0 ≡ aborted_word → ⊥) → A) → A
by_first_word s r a o = by_cases (ℕ_discrete (word_at s 0) running_word) r (λ p. by_cases (ℕ_discrete (word_at s 0) aborted_word) a (o p))
