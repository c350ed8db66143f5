-- The agents reduced, as words in the scratch.
--     reduced_has          whether an agent of the score is reduced
--     reduced_few          no other agent is
--     word_of               the word of the 32 agents from agent 32 k on
--     Marked               the scratch has the words of the first 32 k agents
--     marked_none, marked_more     no word; one word more
--     marked_long, marked_unset     the scratch has its length, and no bit is set beyond them
--     marked_reduced       once all are in, the agents whose bits are set are those reduced
use mathlib.Core.Path.{◌≡◌, sym, ap, ap₂, ◌∙◌}
use mathlib.Core.Bool.{false, ◌&&◌}
use mathlib.Core.List.{List, [], ◌∷◌, ◌++◌, map}
use mathlib.Core.Logic.{by_cases}
use Prim.Native.Nat.{ℕ, ◌+◌, ◌*◌, ◌/◌, ◌%◌, ◌<◌, ◌≤◌}
use native.Mathlib.Decide.{dec_lt}
use native.Mathlib.Numerals.{add-one}
use native.Mathlib.Omega.{arith}
use lib.ListN.{length, get_or, take, drop, length-map, length-append, length-drop, length-replicate, get_or-replicate, get_or-eq_default}
use Rattle.laws.specs.Sets.{below, has}
use Rattle.laws.proofs.Counted.{kept_beyond}
use Rattle.laws.proofs.Lists.{map_at, map_snoc}
use Rattle.laws.proofs.Sets.{on_keep, keep_agrees, not_has, below_lt, below_length, below_at}
use Rattle.tcc.specs.Score.{Score, agent_at}
use Rattle.tcc.specs.Instant.{reducible, reduced_of}
use Rattle.bits.specs.Bits.{bit_at, bits_value, bytes_of}
use Rattle.bits.proofs.Bits.{bits_value_bit, bit_none}
use Rattle.bits.proofs.Bytes.{put_front, bytes_of_length, put_front_more}
use Rattle.bits.proofs.Filled.{has_kept}
use Rattle.bits.proofs.WordBits.{put_front_beyond, put_front_bit}
use Rattle.lent.specs.Lengths.{scratch_bytes, no_scratch}
use Rattle.lent.specs.Scratch.{reduced_in}
use Rattle.instant_count.proofs.Tallying.{bit_in}

no_bytes : (k : ℕ) → get_or no_scratch k 0 ≡ 0
no_bytes k = by_cases (dec_lt k scratch_bytes) (λ l. get_or-replicate {A = ℕ} scratch_bytes k 0 0 l) (λ g. get_or-eq_default no_scratch 0 {n = k} (omega (arith, length-replicate {A = ℕ} scratch_bytes 0)))

module _ (sc : Score) (live held : List ℕ) where
  abbrev reduced : List ℕ
  reduced = reduced_of sc held live

  pub reduced_has : (i : ℕ) → i < length sc.agents → has i reduced ≡ (has i live && reducible held (agent_at sc i))
  reduced_has i h = has_kept (λ j. has j live && reducible held (agent_at sc j)) (length sc.agents) i h

  pub reduced_few : (i : ℕ) → length sc.agents ≤ i → has i reduced ≡ false
  reduced_few i h = not_has (λ m. let l : i < length sc.agents = on_keep (λ j. has j live && reducible held (agent_at sc j)) (below (length sc.agents)) (λ j k p. below_lt (length sc.agents) j k) i m in absurd (omega arith))

  abbrev pub word_of : ℕ → ℕ
  word_of k = bits_value (λ j. has (32 * k + j) reduced) 32

  abbrev words_to : ℕ → List ℕ
  words_to k = map word_of (below k)

  words_to_length : (k : ℕ) → length (words_to k) ≡ k
  words_to_length k = length-map (below k) word_of ∙ below_length k

  unfoldable pub Marked : ℕ → List ℕ → Type 0
  Marked k scratch = scratch ≡ put_front (words_to k) no_scratch

  pub marked_none : (scratch : List ℕ) → scratch ≡ no_scratch → Marked 0 scratch
  unfolding Marked bytes_of
  marked_none scratch e = e

  pub marked_more : (k w : ℕ) (scratch scratch' : List ℕ) → Marked k scratch → w ≡ word_of k → scratch' ≡ take (4 * k) scratch ++ bytes_of (w ∷ []) ++ drop (4 * k + 4) scratch → Marked (k + 1) scratch'
  unfolding Marked
  marked_more k w scratch scratch' m e p =
      p
      ∙ ap₂ (λ x y. take (4 * k) x ++ bytes_of (y ∷ []) ++ drop (4 * k + 4) x) m e
      ∙ put_front_more (words_to k) (word_of k) k no_scratch (words_to_length k)
      ∙ ap (λ l. put_front l no_scratch) (sym (map_snoc word_of (below k) k))
      ∙ ap (λ n. put_front (words_to n) no_scratch) (sym (add-one k))

  module _ (k : ℕ) (scratch : List ℕ) (m : Marked k scratch) where
    pub marked_long : k ≤ 32 → length scratch ≡ scratch_bytes
    unfolding Marked
    marked_long h = ap length m ∙ omega (arith, length-append (bytes_of (words_to k)) (drop (4 * length (words_to k)) no_scratch), bytes_of_length (words_to k), length-drop (4 * length (words_to k)) no_scratch, words_to_length k, length-replicate {A = ℕ} scratch_bytes 0)

    pub marked_unset : (i : ℕ) → 4 * k ≤ i → get_or scratch i 0 ≡ 0
    unfolding Marked
    marked_unset i h = ap (λ s. get_or s i 0) m ∙ put_front_beyond (words_to k) no_scratch no_bytes i (omega (arith, words_to_length k))

    module _ (all : length sc.agents ≤ 32 * k) where
      bit : (i : ℕ) → bit_in scratch i ≡ has i reduced
      unfolding Marked
      bit i = ap (λ s. bit_in s i) m ∙ put_front_bit (words_to k) no_scratch no_bytes i ∙ by_cases (dec_lt (i / 32) k)
          (λ l.
          let e : 32 * (i / 32) + i % 32 ≡ i = omega arith in
          ap (λ w. bit_at w (i % 32)) (map_at word_of (below k) (i / 32) 0 0 (omega (arith, below_length k)) ∙ ap word_of (below_at k (i / 32) l))
          ∙ bits_value_bit (λ j. has (32 * (i / 32) + j) reduced) 32 (i % 32) (omega arith)
          ∙ ap (λ n. has n reduced) e)
          (λ g. ap (λ w. bit_at w (i % 32)) (get_or-eq_default (words_to k) 0 (omega (arith, words_to_length k))) ∙ bit_none (i % 32) ∙ sym (reduced_few i (omega arith)))

      pub marked_reduced : length sc.agents ≤ 1024 → reduced_in scratch ≡ reduced
      unfolding reduced_in
      marked_reduced few =
          let n = length sc.agents in
          keep_agrees (bit_in scratch) (λ i. has i reduced) (below 1024) (λ i k. bit i)
          ∙ kept_beyond (λ i. has i reduced) n 1024 few reduced_few
          ∙ keep_agrees (λ i. has i reduced) (λ i. has i live && reducible held (agent_at sc i)) (below n) (λ i k. reduced_has i (below_lt n i k))
