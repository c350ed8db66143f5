-- A buffer that a map is written to.
--     map_written                     a buffer with k bytes of a map written
--     map_none, map_more, map_all     written byte by byte
use mathlib.Core.Path.{◌≡◌, refl, sym, ap, ap₂, ◌∙◌}
use mathlib.Core.Bool.{Bool}
use mathlib.Core.List.{List, ◌++◌, map, append-nil}
use Prim.Native.Nat.{ℕ, suc, ◌+◌, ◌*◌, ◌<◌}
use native.Mathlib.Numerals.{add-one}
use native.Mathlib.Omega.{arith}
use lib.ListN.{length, get_or, set, drop, drop_of_length-le}
use lib.Seq.{drop-cons, set_at, append_snoc}
use Rattle.laws.specs.Sets.{below, has}
use Rattle.laws.proofs.Lists.{map_snoc, map_same}
use Rattle.flags.specs.Flags.{set_of}
use Rattle.bits.specs.Bits.{bits_value}
use Rattle.lent.specs.Lengths.{map_bytes}
use Rattle.lent.proofs.Gathered.{gathered, parts_length, from_set}
use Rattle.lent_maps.specs.Maps.{map_of}

unfoldable pub map_written : List Bool → ℕ → List ℕ → List ℕ
map_written flags k s = map (gathered 8 flags) (below k) ++ drop k s

module _ (flags : List Bool) where
  pub map_none : (s : List ℕ) → s ≡ map_written flags 0 s
  unfolding map_written
  map_none s = refl

  pub map_more : (k v : ℕ) (s t : List ℕ) → k < length s → t ≡ map_written flags k s → v ≡ gathered 8 flags k → set t k v ≡ map_written flags (k + 1) s
  unfolding map_written
  map_more k v s t h e p =
      let l : List ℕ = map (gathered 8 flags) (below k) in
      ap₂ (λ a b. set a k b) e p
      ∙ ap (λ r. set (l ++ r) k (gathered 8 flags k)) (drop-cons s k 0 h)
      ∙ set_at l (get_or s k 0) (drop (suc k) s) (gathered 8 flags k) k (parts_length 8 k flags)
      ∙ sym (append_snoc l (gathered 8 flags k) (drop (suc k) s))
      ∙ ap (λ r. r ++ drop (suc k) s) (sym (map_snoc (gathered 8 flags) (below k) k))
      ∙ ap (λ n. map (gathered 8 flags) (below n) ++ drop n s) (sym (add-one k))

  pub map_all : (s : List ℕ) → length s ≡ map_bytes → map_written flags 32 s ≡ map_of (set_of flags)
  unfolding map_written map_of
  map_all s h =
      ap₂ ◌++◌ (map_same (gathered 8 flags) (λ k. bits_value (λ j. has (8 * k + j) (set_of flags)) 8) (below 32) (from_set 8 flags)) (drop_of_length-le s {i = 32} (omega arith))
      ∙ append-nil _
