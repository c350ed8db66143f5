-- The live agents among the 32 from agent 32 k on, read one after the other.
--     PartRead         the first j of them are read, and those reduced are the bits of a word
--     part_same        by what the flags and the word are
--     part_none        none is read
--     part_by, part_reduced, part_stays     one more: it is not live; it is reduced; it is not
--     parted           all of them are read
use mathlib.Core.Path.{◌≡◌, refl, sym, ap, subst, ◌∙◌}
use mathlib.Core.Bool.{Bool, false}
use Rattle.std.specs.Prelude.{Some}
use mathlib.Core.List.{List, Memᴰ}
use mathlib.Core.Logic.{by_cases}
use Prim.Native.Nat.{ℕ, ◌+◌, ◌*◌, ◌%◌, ◌^◌, ◌<◌, ◌≤◌}
use native.Mathlib.Decide.{dec_lt}
use native.Mathlib.Omega.{arith}
use lib.Bits.{bit_or}
use lib.ListN.{length}
use Rattle.laws.specs.Sets.{has}
use Rattle.tcc.specs.Score.{Score, agent_at}
use Rattle.tcc.specs.Lawful.{Lawful}
use Rattle.tcc.specs.Instant.{is_abort, leaves, reduced_of}
use Rattle.bits.specs.Bits.{bits_value}
use Rattle.bits.proofs.Bits.{bits_value_beyond}
use Rattle.instant_end.specs.declared.Fate.TheVariants.{Reduced, Stays}
use Rattle.instant_end.specs.Ended.{fate_of, flagged, Read, Parted}
use Rattle.instant_end.proofs.Fates.{fate_says, bit_live, bit_by, word_set, word_unset}
use Rattle.instant_end.proofs.Reading.{read_by, read_more, read_beyond}
use Rattle.instant_end.proofs.Reduced.{reduced_few}

module _ (sc : Score) (live held : List ℕ) (k : ℕ) where
  abbrev bit : ℕ → Bool
  bit m = has (32 * k + m) (reduced_of sc held live)

  pub record PartRead (j : ℕ) (awake : List Bool) (word : ℕ) : Type 0 where
    pub read : Read sc live held (32 * k + j) awake
    pub bits : word ≡ bits_value bit j

  pub part_same : {j : ℕ} {awake awake' : List Bool} {word word' : ℕ} → awake' ≡ awake → word' ≡ word → PartRead j awake word → PartRead j awake' word'
  part_same {j} e q p = record { read = subst (Read sc live held (32 * k + j)) (sym e) p.read; bits = q ∙ p.bits }

  pub part_none : {awake : List Bool} → Read sc live held (32 * k) awake → PartRead 0 awake 0
  unfolding bits_value
  part_none {awake} r = let e : 32 * k ≡ 32 * k + 0 = omega arith in record { read = subst (λ n. Read sc live held n awake) e r; bits = refl }

  module _ {j : ℕ} {awake : List Bool} {word : ℕ} (p : PartRead j awake word) where
    next : {flags : List Bool} → Read sc live held (32 * k + j + 1) flags → Read sc live held (32 * k + (j + 1)) flags
    next {flags} r = let e : 32 * k + j + 1 ≡ 32 * k + (j + 1) = omega arith in subst (λ n. Read sc live held n flags) e r

    module _ (known : 32 * k + j < length sc.agents) where
      pub part_by : (Memᴰ (32 * k + j) live → ⊥) → PartRead (j + 1) awake word
      part_by out = record { read = next (read_by sc live held p.read out); bits = word_unset bit j word p.bits (bit_by sc live held (32 * k + j) known out) }

      module _ (lawful : Lawful sc) (here : Memᴰ (32 * k + j) live) where
        abbrev after : List Bool
        after = flagged (leaves held (agent_at sc (32 * k + j))) awake

        read_live : is_abort (agent_at sc (32 * k + j)) ≡ false → Read sc live held (32 * k + (j + 1)) after
        read_live no_Abort = next (read_more sc live held p.read lawful (omega (arith, lawful.agents_at_most)) here no_Abort)

        pub part_reduced : j < 32 → fate_of held (agent_at sc (32 * k + j)) ≡ Reduced → PartRead (j + 1) after (bit_or word (1 * 2 ^ j % 2 ^ 32))
        part_reduced few e =
            let says = fate_says held (agent_at sc (32 * k + j)) Reduced e in
            record { read = read_live says.0; bits = word_set bit j word p.bits few (bit_live sc live held (32 * k + j) known here says.1) }

        pub part_stays : fate_of held (agent_at sc (32 * k + j)) ≡ Stays → PartRead (j + 1) after word
        part_stays e =
            let says = fate_says held (agent_at sc (32 * k + j)) Stays e in
            record { read = read_live says.0; bits = word_unset bit j word p.bits (bit_live sc live held (32 * k + j) known here says.1) }

    pub parted : j ≤ 32 → (j < 32 → length sc.agents ≤ 32 * k + j) → Parted sc live held k awake (Some word)
    parted most all = by_cases (dec_lt j 32)
        (λ short. record {
          aborts = tt;
          read = read_beyond sc live held p.read (32 * (k + 1)) (all short);
          reduced = p.bits ∙ sym (bits_value_beyond bit j 32 most (λ m h. reduced_few sc live held (32 * k + m) (omega (arith, all short))));
        })
        (λ whole. let e : j ≡ 32 = omega arith in let t : 32 * k + j ≡ 32 * (k + 1) = omega arith in record {
          aborts = tt;
          read = subst (λ n. Read sc live held n awake) t p.read;
          reduced = p.bits ∙ ap (bits_value bit) e;
        })
