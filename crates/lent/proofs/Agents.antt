-- Agents awake in a state.
--     awake_in         whether agent i is awake in a state
--     awake_word       agent j of word k is bit j of the word
--     agents_more      the flags of one word more
--     agents_flags     flags that say so of each agent are the flags of the agents awake
--     agents_from      whether an agent from a number on is awake
--     found_more       in one word more
--     agents_set       the numbers flagged for the agents awake are those agents
--     agents_within    agents are below 1024
use mathlib.Core.Path.{◌≡◌, sym, ap, ap₂, subst, ◌∙◌}
use mathlib.Core.Bool.{Bool, not, ◌&&◌, ◌||◌}
use mathlib.Core.List.{List}
use Prim.Native.Nat.{ℕ, ◌+◌, ◌*◌, ◌-◌, ◌/◌, ◌%◌, ◌^◌, ◌<◌}
use borrow.Author.Tests.{le-leb, lt-leb}
use mathlib.Core.Logic.{by_cases}
use native.Mathlib.Decide.{dec_lt}
use native.Mathlib.Omega.{arith}
use lib.Dec.{eqb, leb}
use Rattle.laws.specs.Sets.{below, any}
use Rattle.laws.proofs.Sets.{Within, on_keep, below_lt}
use Rattle.laws.proofs.Any.{any_keep, any_add, any_same}
use Rattle.words.specs.Word.{word_at}
use Rattle.flags.specs.Flags.{set_of, flags_of}
use Rattle.bits.specs.Bits.{bit_at}
use Rattle.bits.specs.Spread.{Spread}
use Rattle.bits.proofs.Bits.{bits_from}
use Rattle.bits.proofs.Filled.{Upto, upto_spread, upto_flags, set_kept}
use Rattle.lent.specs.States.{agents_in}

unfoldable pub awake_in : List ℕ → ℕ → Bool
awake_in s i = bit_at (word_at s (1 + i / 32)) (i % 32)

pub awake_word : (s : List ℕ) (k j : ℕ) → j < 32 → bit_at (word_at s (1 + k)) j ≡ awake_in s (32 * k + j)
unfolding awake_in
awake_word s k j h =
    let p : k ≡ (32 * k + j) / 32 = omega arith in
    let q : j ≡ (32 * k + j) % 32 = omega arith in
    ap₂ (λ a b. bit_at (word_at s (1 + a)) b) p q

-- counted from a base on
leb_from : (from base j : ℕ) → leb (from - base) j ≡ leb from (base + j)
leb_from from base j = by_cases (dec_lt (base + j) from)
    (λ l. lt-leb (from - base) j (omega arith) ∙ sym (lt-leb from (base + j) l))
    (λ g. le-leb (from - base) j (omega arith) ∙ sym (le-leb from (base + j) (omega arith)))

module _ (s : List ℕ) (k w : ℕ) (e : w ≡ word_at s (1 + k)) where
  awake_at : (j : ℕ) → j < 32 → bit_at w j ≡ awake_in s (32 * k + j)
  awake_at j h = ap (λ x. bit_at x j) e ∙ awake_word s k j h

  next_word : 32 * k + 32 ≡ 32 * (k + 1)
  next_word = omega arith

  pub agents_more : (before after : List Bool) → Upto (awake_in s) (32 * k) 1024 before → Spread (32 * k) 32 w before after → Upto (awake_in s) (32 * (k + 1)) 1024 after
  agents_more before after u p = subst (λ m. Upto (awake_in s) m 1024 after) next_word (upto_spread (awake_in s) (32 * k) 1024 32 w before after u p awake_at)

  pub found_more : (from : ℕ) (found here : Bool) → w < 2 ^ 32 → found ≡ any (λ i. leb from i && awake_in s i) (below (32 * k)) → here ≡ not (eqb (w / 2 ^ (from - 32 * k)) 0)
      → (found || here) ≡ any (λ i. leb from i && awake_in s i) (below (32 * (k + 1)))
  found_more from found here fits p q =
      let g : ℕ → Bool = λ i. leb from i && awake_in s i in
      ap₂ ◌||◌ p (q ∙ sym (bits_from (from - 32 * k) w 32 fits) ∙ any_same _ (λ j. g (32 * k + j)) 32 (λ j h. ap₂ ◌&&◌ (leb_from from (32 * k) j) (awake_at j h)))
      ∙ sym (any_add g (32 * k) 32)
      ∙ ap (λ n. any g (below n)) next_word

module _ (s : List ℕ) where
  pub agents_flags : (flags : List Bool) → Upto (awake_in s) 1024 1024 flags → flags ≡ flags_of 1024 (agents_in s)
  unfolding agents_in awake_in
  agents_flags flags u = upto_flags (awake_in s) 1024 flags u

  pub agents_set : set_of (flags_of 1024 (agents_in s)) ≡ agents_in s
  unfolding agents_in awake_in
  agents_set = set_kept (awake_in s) 1024

  pub agents_from : (from : ℕ) → any (λ i. leb from i) (agents_in s) ≡ any (λ i. leb from i && awake_in s i) (below 1024)
  unfolding agents_in awake_in
  agents_from from = any_keep (λ i. leb from i) (awake_in s) (below 1024)

  pub agents_within : Within (λ i. i < 1024) (agents_in s)
  unfolding agents_in
  agents_within = on_keep (λ i. bit_at (word_at s (1 + i / 32)) (i % 32)) (below 1024) (λ i m p. below_lt 1024 i m)
