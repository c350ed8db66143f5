-- States, read back from the bytes that they are written as.
--     agent_words_length  the words of a set of agents
--     state_words_length, state_words_fit   the words of a state
--     as_bytes_length    its bytes
--     as_bytes_same      the same agents make the same bytes
--     agents_round       the agents awake in the bytes written for a set are the set's
--     state_round        bytes written for a state stand for it
--     lawful_bytes       bytes written for a lawful state have no fault
--     faultless_lawful   bytes without fault stand for a lawful state
use mathlib.Core.Path.{◌≡◌, refl, sym, ap, ◌∙◌}
use mathlib.Core.Bool.{Bool, true, false}
use mathlib.Core.List.Memᴰ
use mathlib.Core.List.{List, [], ◌∷◌, Memᴰ}
use mathlib.Core.Logic.{by_cases}
use Prim.Native.Nat.{ℕ, suc, ◌+◌, ◌*◌, ◌/◌, ◌%◌, ◌^◌, ◌<◌, ◌≤◌}
use borrow.Author.Tests.{leb-true, le-leb}
use native.Mathlib.Decide.{dec_lt}
use native.Mathlib.Omega.{arith}
use lib.Dec.{leb}
use lib.ListN.{length, get_or, length-map}
use Rattle.laws.specs.Sets.{Same, below, keep, any, has}
use Rattle.laws.proofs.Booleans.{true_is_false}
use Rattle.laws.proofs.Lists.{map_at, map_same}
use Rattle.laws.proofs.Sets.{Within, any_some, some_any, on_keep, keep_kept, on_cons, on_map, lt_below, has_member, member_has, has_same, below_length, below_at}
use Rattle.tcc.specs.Instant.{State, running, aborted}
use Rattle.words.specs.Word.{words, word_at}
use Rattle.bits.specs.Bits.{bit_at, bits_value, bytes_of}
use Rattle.bits.proofs.Bits.{bits_value_below, bits_value_same, bits_value_bit}
use Rattle.bits.proofs.Bytes.{bytes_of_length, words_bytes}
use Rattle.lent.specs.Lengths.{unnumbered_bytes}
use Rattle.lent.specs.States.{running_word, aborted_word, agents_in, state_fault, state_of, agent_words, state_words, as_bytes, LawfulState, SameState}
use Rattle.lent.proofs.Agents.{awake_in, agents_within}
use Rattle.lent.proofs.Faults.{fault_running, fault_aborted, fault_other, by_first_word}

-- ---- the words of a set of agents

abbrev word : List ℕ → ℕ → ℕ
word l k = bits_value (λ j. has (32 * k + j) l) 32

pub agent_words_length : (l : List ℕ) → length (agent_words l) ≡ 32
unfolding agent_words
agent_words_length l = length-map (below 32) (word l) ∙ below_length 32

agent_words_fit : (l : List ℕ) → Within (λ w. w < 2 ^ 32) (agent_words l)
unfolding agent_words
agent_words_fit l = on_map (λ w. w < 2 ^ 32) (word l) (below 32) (λ k m. bits_value_below (λ j. has (32 * k + j) l) 32)

agent_words_at : (l : List ℕ) (k : ℕ) → k < 32 → get_or (agent_words l) k 0 ≡ word l k
unfolding agent_words
agent_words_at l k h = map_at (word l) (below 32) k 0 0 (omega (arith, below_length 32)) ∙ ap (word l) (below_at 32 k h)

pub agent_words_same : {a b : List ℕ} → Same a b → agent_words a ≡ agent_words b
unfolding agent_words
agent_words_same {a} {b} e = map_same (word a) (word b) (below 32) (λ k. bits_value_same _ _ 32 (λ j h. has_same (32 * k + j) e))

module _ (first : ℕ) (fits : first < 2 ^ 32) (l : List ℕ) where
  written_words : words (bytes_of (first ∷ agent_words l)) ≡ first ∷ agent_words l
  written_words = words_bytes (first ∷ agent_words l) (on_cons fits (agent_words_fit l))

  first_word : word_at (bytes_of (first ∷ agent_words l)) 0 ≡ first
  first_word = ap (λ ws. get_or ws 0 0) written_words

  awake_round : (i : ℕ) → i < 1024 → awake_in (bytes_of (first ∷ agent_words l)) i ≡ has i l
  unfolding awake_in
  awake_round i h =
      let n : 1 + i / 32 ≡ suc (i / 32) = omega arith in
      let e : 32 * (i / 32) + i % 32 ≡ i = omega arith in
      ap (λ w. bit_at w (i % 32)) (ap (λ ws. get_or ws (1 + i / 32) 0) written_words ∙ ap (λ k. get_or (first ∷ agent_words l) k 0) n ∙ agent_words_at l (i / 32) (omega arith))
      ∙ bits_value_bit (λ j. has (32 * (i / 32) + j) l) 32 (i % 32) (omega arith)
      ∙ ap (λ k. has k l) e

  pub agents_round : Within (λ i. i < 1024) l → Same (agents_in (bytes_of (first ∷ agent_words l))) l
  unfolding agents_in awake_in
  agents_round within i = (to, from)
    where
      s : List ℕ
      s = bytes_of (first ∷ agent_words l)

      to : Memᴰ i (keep (awake_in s) (below 1024)) → Memᴰ i l
      to m = has_member i l (sym (awake_round i (agents_within s i m)) ∙ on_keep {P = λ j. awake_in s j ≡ true} (awake_in s) (below 1024) (λ j k p. p) i m)

      from : Memᴰ i l → Memᴰ i (keep (awake_in s) (below 1024))
      from m = let h : i < 1024 = within i m in keep_kept (awake_in s) (lt_below 1024 h) (awake_round i h ∙ member_has m)

pub state_words_length : (st : State) → length (state_words st) ≡ 33
state_words_length (running l) = ap suc (agent_words_length l)
state_words_length aborted = ap suc (agent_words_length [])

pub state_words_fit : (st : State) → Within (λ w. w < 2 ^ 32) (state_words st)
state_words_fit (running l) = on_cons (omega arith) (agent_words_fit l)
state_words_fit aborted = on_cons (omega arith) (agent_words_fit [])

pub as_bytes_length : (st : State) → length (as_bytes st) ≡ unnumbered_bytes
unfolding as_bytes
as_bytes_length st = bytes_of_length (state_words st) ∙ ap (λ n. 4 * n) (state_words_length st)

pub as_bytes_same : (a b : State) → SameState a b → as_bytes a ≡ as_bytes b
unfolding as_bytes SameState
as_bytes_same (running l) (running k) e = ap (λ ws. bytes_of (running_word ∷ ws)) (agent_words_same e)
as_bytes_same (running l) aborted e = absurd e
as_bytes_same aborted (running k) e = absurd e
as_bytes_same aborted aborted e = refl

aborted_first : word_at (as_bytes aborted) 0 ≡ aborted_word
unfolding as_bytes
aborted_first = first_word aborted_word (omega arith) []

pub state_round : (st : State) → LawfulState 1024 st → SameState (state_of (as_bytes st)) st
unfolding as_bytes state_of LawfulState SameState
state_round (running l) h = rw (first_word running_word (omega arith) l) (agents_round running_word (omega arith) l h)
state_round aborted h = rw aborted_first tt

-- ---- number 9

none_passes : {A : Type 0} (f : A → Bool) (l : List A) → ((x : A) → Memᴰ x l → f x ≡ true → ⊥) → any f l ≡ false
none_passes f l h = go (any f l) refl
  where
    go : (b : Bool) → any f l ≡ b → any f l ≡ false
    go true e = let found = any_some f l e in absurd (h found.0 found.1 found.2)
    go false e = e

pub lawful_bytes : (n : ℕ) → n ≤ 1024 → (st : State) → LawfulState n st → state_fault n (as_bytes st) ≡ false
unfolding as_bytes LawfulState
lawful_bytes n b (running l) h =
    let s : List ℕ = bytes_of (running_word ∷ agent_words l) in
    sym (fault_running n s (first_word running_word (omega arith) l))
    ∙ none_passes (λ i. leb n i) (agents_in s)
    (λ i m p. let k : i < n = h i ((agents_round running_word (omega arith) l (λ j t. let q : j < n = h j t in omega arith) i).0 m) in omega (arith, leb-true n i p))
lawful_bytes n b aborted h =
    let s : List ℕ = bytes_of (aborted_word ∷ agent_words []) in
    sym (fault_aborted n s (first_word aborted_word (omega arith) []))
    ∙ none_passes (λ i. leb 0 i) (agents_in s) (λ i m p. Memᴰ.not-nil ((agents_round aborted_word (omega arith) [] (λ j t. absurd (Memᴰ.not-nil t)) i).0 m))

pub faultless_lawful : (n : ℕ) (s : List ℕ) → state_fault n s ≡ false → LawfulState n (state_of s)
unfolding state_of LawfulState
faultless_lawful n s e = by_first_word s (λ w. rw w (below_n (fault_running n s w ∙ e))) (λ w. rw w tt) (λ p q. absurd (true_is_false refl (fault_other n s p q ∙ e)))
  where
    below_n : any (λ i. leb n i) (agents_in s) ≡ false → (i : ℕ) → Memᴰ i (agents_in s) → i < n
    below_n none i m = by_cases (dec_lt i n) (λ h. h) (λ h. absurd (true_is_false (some_any (λ j. leb n j) m (le-leb n i (omega arith))) none))
