-- Tokens in a map.
--     token_byte       token j of byte k is bit j of the byte
--     tokens_more      the flags of one byte more
--     tokens_flags     flags that say so of each token are the flags of the tokens in the map
--     tokens_set       the numbers flagged for the tokens in a map are those tokens
--     tokens_within    tokens are below 256
use mathlib.Core.Path.{◌≡◌, ap, ap₂, subst, ◌∙◌}
use mathlib.Core.Bool.{Bool}
use mathlib.Core.List.{List}
use Prim.Native.Nat.{ℕ, ◌+◌, ◌*◌, ◌/◌, ◌%◌, ◌<◌}
use native.Mathlib.Omega.{arith}
use lib.ListN.{get_or}
use Rattle.laws.specs.Sets.{below}
use Rattle.laws.proofs.Sets.{Within, on_keep, below_lt}
use Rattle.words.specs.Map.{in_map}
use Rattle.flags.specs.Flags.{set_of, flags_of}
use Rattle.bits.specs.Bits.{bit_at}
use Rattle.bits.specs.Spread.{Spread}
use Rattle.bits.proofs.Filled.{Upto, upto_spread, upto_flags, set_kept}
use Rattle.lent_maps.specs.Maps.{tokens_in}

pub token_byte : (m : List ℕ) (k j : ℕ) → j < 8 → bit_at (get_or m k 0) j ≡ in_map m (8 * k + j)
unfolding in_map
token_byte m k j h =
    let p : k ≡ (8 * k + j) / 8 = omega arith in
    let q : j ≡ (8 * k + j) % 8 = omega arith in
    ap₂ (λ a b. bit_at (get_or m a 0) b) p q

pub tokens_more : (m : List ℕ) (k w : ℕ) → w ≡ get_or m k 0 → (before after : List Bool) → Upto (in_map m) (8 * k) 256 before → Spread (8 * k) 8 w before after → Upto (in_map m) (8 * (k + 1)) 256 after
tokens_more m k w e before after u p =
    let t : 8 * k + 8 ≡ 8 * (k + 1) = omega arith in
    subst (λ n. Upto (in_map m) n 256 after) t (upto_spread (in_map m) (8 * k) 256 8 w before after u p (λ j h. ap (λ x. bit_at x j) e ∙ token_byte m k j h))

module _ (m : List ℕ) where
  pub tokens_flags : (flags : List Bool) → Upto (in_map m) 256 256 flags → flags ≡ flags_of 256 (tokens_in m)
  unfolding tokens_in
  tokens_flags flags u = upto_flags (in_map m) 256 flags u

  pub tokens_set : set_of (flags_of 256 (tokens_in m)) ≡ tokens_in m
  unfolding tokens_in
  tokens_set = set_kept (in_map m) 256

  pub tokens_within : Within (λ t. t < 256) (tokens_in m)
  unfolding tokens_in
  tokens_within = on_keep (in_map m) (below 256) (λ t k p. below_lt 256 t k)
