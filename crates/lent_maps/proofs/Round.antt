-- Maps, read back from the bytes that they are written as.
--     map_of_length    a map has 32 bytes
--     map_of_same      the same tokens make the same map
--     map_round        the tokens in the map of a set are the set's below 256
use mathlib.Core.Path.{◌≡◌, sym, ap, ◌∙◌}
use mathlib.Core.Bool.{true}
use mathlib.Core.List.{List, Memᴰ}
use Prim.Native.Nat.{ℕ, ◌+◌, ◌*◌, ◌/◌, ◌%◌, ◌<◌}
use borrow.Author.Tests.{ltb-true, lt-ltb}
use native.Mathlib.Omega.{arith}
use lib.Dec.{ltb}
use lib.ListN.{length, length-map}
use Rattle.laws.specs.Sets.{Same, below, keep, has}
use Rattle.laws.proofs.Lists.{map_at, map_same}
use Rattle.laws.proofs.Sets.{on_keep, keep_kept, lt_below, has_member, member_has, has_same, below_length, below_at}
use Rattle.words.specs.Map.{in_map}
use Rattle.bits.specs.Bits.{bit_at, bits_value}
use Rattle.bits.proofs.Bits.{bits_value_same, bits_value_bit}
use Rattle.lent.specs.Lengths.{map_bytes}
use Rattle.lent_maps.specs.Maps.{tokens_in, map_of}
use Rattle.lent_maps.proofs.Tokens.{tokens_within}

abbrev byte : List ℕ → ℕ → ℕ
byte l k = bits_value (λ j. has (8 * k + j) l) 8

pub map_of_length : (l : List ℕ) → length (map_of l) ≡ map_bytes
unfolding map_of
map_of_length l = length-map (below 32) (byte l) ∙ below_length 32

pub map_of_same : {a b : List ℕ} → Same a b → map_of a ≡ map_of b
unfolding map_of
map_of_same {a} {b} e = map_same (byte a) (byte b) (below 32) (λ k. bits_value_same _ _ 8 (λ j h. has_same (8 * k + j) e))

token_round : (l : List ℕ) (t : ℕ) → t < 256 → in_map (map_of l) t ≡ has t l
unfolding map_of in_map
token_round l t h =
    let e : 8 * (t / 8) + t % 8 ≡ t = omega arith in
    ap (λ w. bit_at w (t % 8)) (map_at (byte l) (below 32) (t / 8) 0 0 (omega (arith, below_length 32)) ∙ ap (byte l) (below_at 32 (t / 8) (omega arith)))
    ∙ bits_value_bit (λ j. has (8 * (t / 8) + j) l) 8 (t % 8) (omega arith)
    ∙ ap (λ k. has k l) e

pub map_round : (l : List ℕ) → Same (tokens_in (map_of l)) (keep (λ t. ltb t 256) l)
unfolding tokens_in
map_round l t = (to, from)
  where
    to : Memᴰ t (keep (in_map (map_of l)) (below 256)) → Memᴰ t (keep (λ u. ltb u 256) l)
    to m =
        let h : t < 256 = tokens_within (map_of l) t m in
        keep_kept (λ u. ltb u 256) (has_member t l (sym (token_round l t h) ∙ on_keep {P = λ j. in_map (map_of l) j ≡ true} (in_map (map_of l)) (below 256) (λ j k p. p) t m)) (lt-ltb t 256 h)

    from : Memᴰ t (keep (λ u. ltb u 256) l) → Memᴰ t (keep (in_map (map_of l)) (below 256))
    from m =
        let h : t < 256 = on_keep {P = λ u. u < 256} (λ u. ltb u 256) l (λ u k p. ltb-true u 256 p) t m in
        let k : Memᴰ t l = on_keep {P = λ u. Memᴰ u l} (λ u. ltb u 256) l (λ u k p. k) t m in
        keep_kept (in_map (map_of l)) (lt_below 256 h) (token_round l t h ∙ member_has k)
