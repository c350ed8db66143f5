-- The words of a slice of bytes.
--     word_small       a word has 32 bits
--     number_few       so a number is not past the last
--     aborted_words    an aborted state without fault is the one that is written
use mathlib.Core.Path.{◌≡◌, refl, sym, ap, ◌∙◌}
use mathlib.Core.Bool.{Bool, true, false, cond, ◌&&◌}
use mathlib.Core.List.{List, []}
use Prim.Native.Nat.{ℕ, zero, suc, ◌+◌, ◌*◌, ◌/◌, ◌^◌, ◌<◌, ◌≤◌}
use borrow.Author.Tests.{eqb-true, le-leb, not-false}
use mathlib.Core.Logic.{by_cases}
use native.Mathlib.Decide.{dec_lt}
use native.Mathlib.Omega.{arith}
use lib.Dec.{eqb, leb}
use lib.ListN.{length, get_or, get_or-eq_default}
use Rattle.laws.specs.Sets.{below, any, has}
use Rattle.laws.proofs.Booleans.{true_is_false, and_both, both_and}
use Rattle.laws.proofs.Lists.{map_at}
use Rattle.laws.proofs.Sets.{any_some, some_any, below_lt, lt_below, below_length}
use Rattle.tcc.specs.Instant.{running, aborted}
use Rattle.words.specs.Word.{words, word_at}
use Rattle.words.proofs.Words.{word_joined}
use Rattle.bits.specs.Bits.{bit_at, bits_value}
use Rattle.bits.proofs.Bits.{bits_from}
use Rattle.lent.specs.Lengths.{state_bytes}
use Rattle.lent.specs.States.{aborted_word, agents_in, state_fault, state_of, agent_words, state_words, as_bytes, instant_number, numbered, last_number, SameButNumber}
use Rattle.lent.proofs.Agents.{awake_in, awake_word, agents_from}
use Rattle.lent.proofs.Faults.{fault_aborted}
use Rattle.bits.proofs.Bytes.{words_bytes}
use Rattle.lent.proofs.Round.{state_words_fit}
use Rattle.lent.proofs.Numbered.{numbered_head, numbered_length}
use Rattle.score.specs.Slice.{Slice}

module _ (s : List ℕ) (lent : Slice s) where
  pub word_small : (i : ℕ) → word_at s i < 2 ^ 32
  word_small i = by_cases (dec_lt i (length (words s)))
      (λ l. omega (arith, word_joined s i l, lent.small (i * 4), lent.small (i * 4 + 1), lent.small (i * 4 + 2), lent.small (i * 4 + 3)))
      (λ g. omega (arith, get_or-eq_default (words s) 0 {n = i} (omega arith)))

  pub number_few : instant_number s ≤ last_number
  unfolding instant_number
  number_few = omega (arith, word_small 33)

  -- no agent is awake in it
  module _ (n : ℕ) (faultless : state_fault n s ≡ false) (first : word_at s 0 ≡ aborted_word) where
    asleep : (i : ℕ) → i < 1024 → awake_in s i ≡ true → ⊥
    asleep i h e = true_is_false
        (agents_from s 0 ∙ some_any (λ j. leb 0 j && awake_in s j) (lt_below 1024 h) (both_and (le-leb 0 i (omega arith)) e))
        (fault_aborted n s first ∙ faultless)

    no_bits : (k : ℕ) → k < 32 → word_at s (1 + k) ≡ 0
    no_bits k h =
        let w = word_at s (1 + k) in
        let zero : eqb (w / 2 ^ 0) 0 ≡ true = not-false (eqb (w / 2 ^ 0) 0) (sym (bits_from 0 w 32 (word_small (1 + k))) ∙ none) in
        omega (arith, eqb-true (w / 2 ^ 0) 0 zero)
      where
        bits : ℕ → Bool
        bits j = leb 0 j && bit_at (word_at s (1 + k)) j

        go : (b : Bool) → any bits (below 32) ≡ b → any bits (below 32) ≡ false
        go true e =
            let found = any_some bits (below 32) e in
            let j = found.0 in
            let small = below_lt 32 j found.1 in
            absurd (asleep (32 * k + j) (omega arith) (sym (awake_word s k j small) ∙ (and_both (leb 0 j) (bit_at (word_at s (1 + k)) j) found.2).1))
        go false e = e

        none : any bits (below 32) ≡ false
        none = go (any bits (below 32)) refl

-- the words of the aborted state that is written
written_word : (i : ℕ) → word_at (as_bytes aborted) i ≡ get_or (state_words aborted) i 0
unfolding as_bytes
written_word i = ap (λ ws. get_or ws i 0) (words_bytes (state_words aborted) (state_words_fit aborted))

written_bits : (k : ℕ) → k < 32 → word_at (as_bytes aborted) (suc k) ≡ 0
unfolding agent_words bits_value
written_bits k h = written_word (suc k) ∙ map_at (λ j. bits_value (λ b. has (32 * j + b) []) 32) (below 32) k 0 0 (omega (arith, below_length 32))

first_aborted : (s : List ℕ) → state_of s ≡ aborted → word_at s 0 ≡ aborted_word
unfolding state_of
first_aborted s = go (eqb (word_at s 0) aborted_word) refl
  where
    go : (b : Bool) → eqb (word_at s 0) aborted_word ≡ b → cond b aborted (running (agents_in s)) ≡ aborted → word_at s 0 ≡ aborted_word
    go true e h = eqb-true (word_at s 0) aborted_word e
    go false e h = absurd (let z : ◌≡◌ {A = ℕ} 0 1 = cc in omega arith)

pub aborted_words : (s : List ℕ) → Slice s → length s ≡ state_bytes → (n : ℕ) → state_fault n s ≡ false → state_of s ≡ aborted → (m : ℕ) → SameButNumber s (numbered aborted m)
aborted_words s lent long n faultless is m = record { long = long ∙ sym (numbered_length aborted m); words = λ i h. at i h ∙ sym (numbered_head aborted m i h) }
  where
    first : word_at s 0 ≡ aborted_word
    first = first_aborted s is

    at : (i : ℕ) → i < 33 → word_at s i ≡ word_at (as_bytes aborted) i
    at zero h = first ∙ sym (written_word 0)
    at (suc k) h = let e : suc k ≡ 1 + k = omega arith in ap (word_at s) e ∙ no_bits s lent n faultless first k (omega arith) ∙ sym (written_bits k (omega arith))
