-- Numbers gathered from flags, and a state that they are written to.
--     gathered              the number of the n flags of part k
--     parts_length          so many parts are gathered as are asked for
--     from_set              gathered from the flags of a set, or from the set
--     state_written         a buffer with a first word and k words of agents written
--     state_first, state_more, state_all     written word by word, and what comes after them as it was
--     number_put            a number put behind them
use mathlib.Core.Path.{◌≡◌, sym, ap, ap₂, ◌∙◌}
use mathlib.Core.Bool.{Bool, false}
use mathlib.Core.List.{List, [], ◌∷◌, ◌++◌, map}
use Prim.Native.Nat.{ℕ, ◌+◌, ◌*◌}
use native.Mathlib.Numerals.{add-one}
use native.Mathlib.Omega.{arith}
use lib.ListN.{length, get_or, take, drop, length-map}
use lib.Seq.{take_at, drop-append-add, drop-drop}
use Rattle.laws.specs.Sets.{below, has}
use Rattle.laws.proofs.Lists.{map_snoc, map_same}
use Rattle.laws.proofs.Sets.{below_length}
use Rattle.flags.specs.Flags.{set_of}
use Rattle.bits.specs.Bits.{bits_value, bytes_of}
use Rattle.bits.proofs.Bits.{bits_value_same}
use Rattle.bits.proofs.Bytes.{bytes_of_length, bytes_of_append, put_front, put_front_more}
use Rattle.bits.proofs.Filled.{has_set}
use Rattle.lent.specs.Lengths.{unnumbered_bytes}
use Rattle.lent.specs.States.{agent_words}

abbrev pub gathered : ℕ → List Bool → ℕ → ℕ
gathered n flags k = bits_value (λ j. get_or flags (n * k + j) false) n

pub parts_length : (n k : ℕ) (flags : List Bool) → length (map (gathered n flags) (below k)) ≡ k
parts_length n k flags = length-map (below k) (gathered n flags) ∙ below_length k

pub from_set : (n : ℕ) (flags : List Bool) (k : ℕ) → gathered n flags k ≡ bits_value (λ j. has (n * k + j) (set_of flags)) n
from_set n flags k = bits_value_same _ _ n (λ j h. sym (has_set flags (n * k + j)))

unfoldable pub state_written : ℕ → List Bool → ℕ → List ℕ → List ℕ
state_written first awake k s = put_front (first ∷ map (gathered 32 awake) (below k)) s

pub state_first : (first : ℕ) (awake : List Bool) (s t : List ℕ) → t ≡ take 0 s ++ bytes_of (first ∷ []) ++ drop 4 s → t ≡ state_written first awake 0 t
unfolding state_written bytes_of
state_first first awake s t e = e ∙ sym (ap (put_front (first ∷ [])) e)

module _ (first : ℕ) (awake : List Bool) where
  pub state_more : (k w : ℕ) (s t u : List ℕ) → t ≡ state_written first awake k s → w ≡ gathered 32 awake k
      → u ≡ take (4 * (1 + k)) t ++ bytes_of (w ∷ []) ++ drop (4 * (1 + k) + 4) t → u ≡ state_written first awake (k + 1) s
  unfolding state_written
  state_more k w s t u e v p =
      p
      ∙ ap₂ (λ x y. take (4 * (1 + k)) x ++ bytes_of (y ∷ []) ++ drop (4 * (1 + k) + 4) x) e v
      ∙ put_front_more (first ∷ map (gathered 32 awake) (below k)) (gathered 32 awake k) (1 + k) s (omega (arith, parts_length 32 k awake))
      ∙ ap (λ l. put_front (first ∷ l) s) (sym (map_snoc (gathered 32 awake) (below k) k))
      ∙ ap (λ n. put_front (first ∷ map (gathered 32 awake) (below n)) s) (sym (add-one k))

  pub state_all : (s t u : List ℕ) → t ≡ take 0 s ++ bytes_of (first ∷ []) ++ drop 4 s → u ≡ state_written first awake 32 t
      → u ≡ bytes_of (first ∷ agent_words (set_of awake)) ++ drop unnumbered_bytes s
  unfolding state_written agent_words bytes_of
  state_all s t u p e =
      e
      ∙ ap (λ n. bytes_of ws ++ drop n t) long
      ∙ ap (λ x. bytes_of ws ++ drop unnumbered_bytes x) p
      ∙ ap (λ x. bytes_of ws ++ x) (drop-append-add (bytes_of (first ∷ [])) (drop 4 s) 128 ∙ drop-drop 128 4 s)
      ∙ ap (λ l. bytes_of (first ∷ l) ++ drop unnumbered_bytes s) (map_same (gathered 32 awake) (λ k. bits_value (λ j. has (32 * k + j) (set_of awake)) 32) (below 32) (from_set 32 awake))
    where
      ws : List ℕ
      ws = first ∷ map (gathered 32 awake) (below 32)

      long : 4 * length ws ≡ unnumbered_bytes
      long = omega (arith, parts_length 32 32 awake)

pub number_put : (ws : List ℕ) (number : ℕ) (rest s t : List ℕ) → length ws ≡ 33 → s ≡ bytes_of ws ++ rest → t ≡ take unnumbered_bytes s ++ bytes_of (number ∷ []) → t ≡ bytes_of (ws ++ number ∷ [])
number_put ws number rest s t h e p =
    p
    ∙ ap (λ x. take unnumbered_bytes x ++ bytes_of (number ∷ [])) e
    ∙ ap (λ x. x ++ bytes_of (number ∷ [])) (take_at (bytes_of ws) rest unnumbered_bytes (omega (arith, bytes_of_length ws)))
    ∙ sym (bytes_of_append ws (number ∷ []))
