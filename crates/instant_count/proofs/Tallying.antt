-- The loop over the bytes of the scratch that counts their bits and clears them.
--     bit_in           the bit of agent i
--     Tallying         of the first bytes, those below k are counted and cleared, the others are as they were
--     tallying_none, tallying_more     no byte; one byte more
--     tallying_few     so many bits at most
--     tallied          the loop ends
use mathlib.Core.Path.{◌≡◌, refl, sym, ap, ap₂, ◌∙◌}
use mathlib.Core.Bool.{Bool, false}
use mathlib.Core.List.{List}
use mathlib.Core.Logic.{by_cases}
use Prim.Native.Nat.{ℕ, ◌+◌, ◌-◌, ◌*◌, ◌/◌, ◌%◌, ◌^◌, ◌<◌, ◌≤◌}
use native.Mathlib.Decide.{dec_lt, ℕ_discrete}
use native.Mathlib.Nat.{not-suc-le-zero}
use native.Mathlib.Omega.{arith}
use lib.Count.{ones}
use lib.ListN.{length, get_or, set, take, drop, length-set, length-replicate, get_or-replicate}
use Rattle.std.proofs.lemmas.List.{get_or-take, get_or-drop, get_or_append_left, get_or-append_right, length-take-le}
use Rattle.std.proofs.Common.{◌++◌, length-append, length-drop}
use lib.Seq.{get_or-set_same, get_or-set_other, ext_get_or}
use Rattle.laws.specs.Sets.{below}
use Rattle.laws.proofs.Counted.{counted, counted_add, counted_same, kept_beyond}
use Rattle.laws.proofs.Sets.{keep_few, below_length}
use Rattle.bits.specs.Bits.{bit_at}
use Rattle.bits.proofs.Bits.{bit_none}
use Rattle.bits.proofs.Ones.{ones_bits}
use Rattle.lent.specs.Lengths.{scratch_bytes, no_scratch}
use Rattle.lent.specs.Scratch.{reduced_in}
use Rattle.instant_count.specs.Tallied.{Tallied}

abbrev pub bit_in : List ℕ → ℕ → Bool
bit_in s i = bit_at (get_or s (i / 8) 0) (i % 8)

byte_counted : (s : List ℕ) (k : ℕ) → get_or s k 0 < 2 ^ 8 → counted (bit_in s) (8 * k + 8) ≡ counted (bit_in s) (8 * k) + ones (get_or s k 0)
byte_counted s k h =
    counted_add (bit_in s) (8 * k) 8
    ∙ ap (λ n. counted (bit_in s) (8 * k) + n) (counted_same (λ j. bit_in s (8 * k + j)) (bit_at (get_or s k 0)) 8 in_byte ∙ ones_bits 8 (get_or s k 0) h)
  where
    in_byte : (j : ℕ) → j < 8 → bit_in s (8 * k + j) ≡ bit_at (get_or s k 0) j
    in_byte j l =
        let p : (8 * k + j) / 8 ≡ k = omega arith in
        let q : (8 * k + j) % 8 ≡ j = omega arith in
        ap₂ (λ a b. bit_at (get_or s a 0) b) p q

module _ (before : List ℕ) where
  pub record Tallying (now : List ℕ) (k count : ℕ) : Type 0 where
    pub cleared : (i : ℕ) → i < k → get_or now i 0 ≡ 0
    pub rest : (i : ℕ) → k ≤ i → i < length now → get_or now i 0 ≡ get_or before i 0
    pub counts : count ≡ counted (bit_in before) (8 * k)

  pub tallying_none : (used : ℕ) → used ≤ length before → Tallying (take used before) 0 0
  tallying_none used few = record {
    cleared = λ i h. absurd (not-suc-le-zero h);
    rest = λ i h l. get_or-take used before i 0 (omega (arith, length-take-le used before few));
    counts = refl;
  }

  module _ (now : List ℕ) (k count : ℕ) (t : Tallying now k count) where
    pub tallying_few : count ≤ 8 * k
    tallying_few = omega (arith, t.counts, keep_few (bit_in before) (below (8 * k)), below_length (8 * k))

    pub tallying_more : k < length now → get_or now k 0 < 2 ^ 8 → Tallying (set now k 0) (k + 1) (count + ones (get_or now k 0))
    tallying_more h small = record {
      cleared = λ i l. go i l (ℕ_discrete i k);
      rest = λ i l m. get_or-set_other now k i 0 0 (λ e. omega arith) ∙ t.rest i (omega arith) (omega (arith, length-set now k 0));
      counts =
          let same : get_or now k 0 ≡ get_or before k 0 = t.rest k (omega arith) h in
          let next : 8 * k + 8 ≡ 8 * (k + 1) = omega arith in
          ap₂ (λ a b. a + ones b) t.counts same
          ∙ sym (byte_counted before k (omega arith))
          ∙ ap (counted (bit_in before)) next;
    }
      where
        go : (i : ℕ) → i < k + 1 → Dec (i ≡ k) → get_or (set now k 0) i 0 ≡ 0
        go i l (yes e) = ap (λ n. get_or (set now k 0) n 0) e ∙ get_or-set_same now k 0 0 h
        go i l (no d) = get_or-set_other now k i 0 0 d ∙ t.cleared i (omega arith)

    pub tallied : (used : ℕ) → length now ≡ used → used ≤ k → k ≤ used → length before ≡ scratch_bytes → used ≤ scratch_bytes →
        ((i : ℕ) → used ≤ i → get_or before i 0 ≡ 0) → Tallied before (now ++ drop used before) count
    unfolding reduced_in
    tallied used long past few before_long room zeros = record {
      counted = t.counts ∙ ap (λ n. counted (bit_in before) (8 * n)) e ∙ sym (ap length (kept_beyond (bit_in before) (8 * used) 1024 (omega arith) unset));
      cleared = ext_get_or 0 (now ++ drop used before) no_scratch
          (same_length ∙ sym (length-replicate {A = ℕ} scratch_bytes 0))
          (λ i l. none i ∙ sym (get_or-replicate {A = ℕ} scratch_bytes i 0 0 (omega (arith, same_length))));
    }
      where
        e : k ≡ used
        e = omega arith

        same_length : length (now ++ drop used before) ≡ scratch_bytes
        same_length = omega (arith, length-append now (drop used before), length-drop used before)

        unset : (i : ℕ) → 8 * used ≤ i → bit_in before i ≡ false
        unset i l = ap (λ x. bit_at x (i % 8)) (zeros (i / 8) (omega arith)) ∙ bit_none (i % 8)

        none : (i : ℕ) → get_or (now ++ drop used before) i 0 ≡ 0
        none i = by_cases (dec_lt i used)
            (λ l. get_or_append_left now (drop used before) 0 i (omega arith) ∙ t.cleared i (omega arith))
            (λ g. get_or-append_right now (drop used before) used i 0 long (omega arith) ∙ get_or-drop used before (i - used) 0 ∙ zeros (used + (i - used)) (omega arith))
