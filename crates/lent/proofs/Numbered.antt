-- A state beside its instant number.
--     SameHead             bytes with the same words of a state, their numbers aside
--     agents_aside, state_aside, fault_aside     what is read of them is the same
--     numbered_put         a state with its number put behind it
--     numbered_head, numbered_state     a state with its number has the words of the state
--     numbered_length      its bytes
--     numbered_same        the same agents and the same number make the same bytes
--     numbered_round       it stands for its state
--     numbered_fault       and has its faults
--     number_round         its number, read back
--     numbered_alike       with another number it differs in that alone
--     next_number          an answered instant adds one
use mathlib.Core.Path.{◌≡◌, sym, ap, ap₂, subst⁻¹, ◌∙◌}
use mathlib.Core.Bool.{cond}
use mathlib.Core.List.Memᴰ
use mathlib.Core.List.{List, [], ◌∷◌, ◌++◌}
use Prim.Native.Nat.{ℕ, suc, ◌+◌, ◌*◌, ◌/◌, ◌%◌, ◌<◌, ◌≤◌}
use native.Mathlib.Omega.{arith}
use lib.Dec.{eqb, leb}
use lib.ListN.{length, get_or, take, length-append, get_or-append}
use lib.Seq.{get_or-append_seam}
use Rattle.laws.specs.Sets.{below, any}
use Rattle.laws.proofs.Sets.{on_cons, on_append, keep_agrees, below_lt}
use Rattle.tcc.specs.Instant.{State, running, aborted, Answer, after}
use Rattle.words.specs.Word.{joined, word_at}
use Rattle.words.proofs.Words.{words_length, word_joined}
use Rattle.bits.specs.Bits.{bit_at, bytes_of}
use Rattle.bits.proofs.Bytes.{bytes_of_length, bytes_of_append, words_bytes}
use Rattle.lent.specs.Lengths.{unnumbered_bytes, state_bytes}
use Rattle.lent.specs.States.{aborted_word, agents_in, state_fault, state_of, state_words, as_bytes, instant_number, numbered, next_bytes, last_number, SameButNumber, LawfulState, SameState}
use Rattle.lent.proofs.Faults.{fault_running, fault_aborted, fault_other, by_first_word}
use Rattle.lent.proofs.Gathered.{number_put}
use Rattle.lent.proofs.Round.{state_words_length, state_words_fit, as_bytes_length, as_bytes_same, state_round}

abbrev pub SameHead : List ℕ → List ℕ → Type 0
SameHead s t = (i : ℕ) → i < 33 → word_at s i ≡ word_at t i

module _ (s t : List ℕ) (same : SameHead s t) where
  pub agents_aside : agents_in s ≡ agents_in t
  unfolding agents_in
  agents_aside = keep_agrees _ _ (below 1024) (λ i m. ap (λ w. bit_at w (i % 32)) (same (1 + i / 32) (omega (arith, below_lt 1024 i m))))

  pub state_aside : state_of s ≡ state_of t
  unfolding state_of
  state_aside = ap₂ (λ w l. cond (eqb w aborted_word) aborted (running l)) (same 0 (omega arith)) agents_aside

  pub fault_aside : (n : ℕ) → state_fault n s ≡ state_fault n t
  fault_aside n =
      let first : word_at s 0 ≡ word_at t 0 = same 0 (omega arith) in
      by_first_word s
      (λ e. sym (fault_running n s e) ∙ ap (any (λ i. leb n i)) agents_aside ∙ fault_running n t (sym first ∙ e))
      (λ e. sym (fault_aborted n s e) ∙ ap (any (λ i. leb 0 i)) agents_aside ∙ fault_aborted n t (sym first ∙ e))
      (λ p q. sym (fault_other n s p q) ∙ fault_other n t (λ e. p (first ∙ e)) (λ e. q (first ∙ e)))

bytes_head : (s t : List ℕ) → unnumbered_bytes ≤ length s → unnumbered_bytes ≤ length t → ((i : ℕ) → i < unnumbered_bytes → get_or s i 0 ≡ get_or t i 0) → SameHead s t
bytes_head s t a b e i h =
    word_joined s i (omega (arith, words_length s))
    ∙ ap₂ (λ x y. joined x y (get_or s (i * 4 + 2) 0) (get_or s (i * 4 + 3) 0)) (e (i * 4) (omega arith)) (e (i * 4 + 1) (omega arith))
    ∙ ap₂ (λ x y. joined (get_or t (i * 4) 0) (get_or t (i * 4 + 1) 0) x y) (e (i * 4 + 2) (omega arith)) (e (i * 4 + 3) (omega arith))
    ∙ sym (word_joined t i (omega (arith, words_length t)))

module _ (st : State) (n : ℕ) where
  parts : numbered st n ≡ as_bytes st ++ bytes_of (n ∷ [])
  unfolding numbered as_bytes
  parts = bytes_of_append (state_words st) (n ∷ [])

  pub numbered_put : (rest s t : List ℕ) → s ≡ as_bytes st ++ rest → t ≡ take unnumbered_bytes s ++ bytes_of (n ∷ []) → t ≡ numbered st n
  unfolding numbered as_bytes
  numbered_put rest s t = number_put (state_words st) n rest s t (state_words_length st)

  pub numbered_length : length (numbered st n) ≡ state_bytes
  numbered_length = ap length parts ∙ length-append (as_bytes st) (bytes_of (n ∷ [])) ∙ ap₂ ◌+◌ (as_bytes_length st) (bytes_of_length (n ∷ []))

  pub numbered_head : SameHead (numbered st n) (as_bytes st)
  numbered_head = bytes_head (numbered st n) (as_bytes st) (omega (arith, numbered_length)) (omega (arith, as_bytes_length st))
      (λ i h. ap (λ s. get_or s i 0) parts ∙ get_or-append (as_bytes st) (bytes_of (n ∷ [])) 0 i (omega (arith, as_bytes_length st)))

  pub numbered_state : state_of (numbered st n) ≡ state_of (as_bytes st)
  numbered_state = state_aside (numbered st n) (as_bytes st) numbered_head

  pub numbered_round : LawfulState 1024 st → SameState (state_of (numbered st n)) st
  numbered_round h = subst⁻¹ (λ x. SameState x st) numbered_state (state_round st h)

  pub numbered_fault : (m : ℕ) → state_fault m (numbered st n) ≡ state_fault m (as_bytes st)
  numbered_fault = fault_aside (numbered st n) (as_bytes st) numbered_head

  pub number_round : n ≤ last_number → instant_number (numbered st n) ≡ n
  unfolding instant_number numbered
  number_round h =
      ap (λ ws. get_or ws 33 0) (words_bytes (state_words st ++ n ∷ []) (on_append (state_words st) (state_words_fit st) (on_cons (omega arith) (λ w m. absurd (Memᴰ.not-nil m)))))
      ∙ ap (λ k. get_or (state_words st ++ n ∷ []) k 0) (sym (state_words_length st))
      ∙ get_or-append_seam (state_words st) n [] 0

pub numbered_alike : (st : State) (n m : ℕ) → SameButNumber (numbered st n) (numbered st m)
numbered_alike st n m = record { long = numbered_length st n ∙ sym (numbered_length st m); words = λ i h. numbered_head st n i h ∙ sym (numbered_head st m i h) }

pub next_number : (s : List ℕ) (a : Answer) → instant_number s < last_number → instant_number (next_bytes s a) ≡ suc (instant_number s)
next_number s a h = number_round (after a) (suc (instant_number s)) (omega arith)

pub numbered_same : (a b : State) (n : ℕ) → SameState a b → numbered a n ≡ numbered b n
numbered_same a b n e = parts a n ∙ ap (λ s. s ++ bytes_of (n ∷ [])) (as_bytes_same a b e) ∙ sym (parts b n)
