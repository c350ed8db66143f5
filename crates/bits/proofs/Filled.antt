-- Laws of flags that are filled part by part from the bits of numbers.
--     has_kept         the numbers below n that pass a test
--     has_set          the numbers flagged
--     set_kept         the numbers flagged for those that pass a test are those that pass it
--     none_from, from_none     no number from n on is flagged: no flag from n on is set
--     spread_zero      no bit is set, and no flag was
--     Upto             the flags below m are as a test says, the others are not set
--     upto_none, upto_spread       part by part
--     upto_flags       once all are as the test says, they are the flags of the numbers that pass
use mathlib.Core.Path.{◌≡◌, refl, sym, ap, subst, ◌∙◌}
use mathlib.Core.Bool.{Bool, true, false}
use mathlib.Core.List.{List}
use mathlib.Core.Logic.{by_cases}
use Prim.Native.Nat.{ℕ, ◌+◌, ◌-◌, ◌<◌, ◌≤◌}
use native.Mathlib.Nat.{not-suc-le-zero}
use native.Mathlib.Decide.{dec_lt}
use native.Mathlib.Omega.{arith}
use lib.ListN.{length, get_or, replicate, length-replicate, get_or-replicate, get_or-eq_default}
use lib.Seq.{ext_get_or}
use lib.Dec.{leb}
use borrow.Author.Tests.{leb-true, le-leb}
use Rattle.laws.specs.Sets.{below, keep, any, has}
use Rattle.laws.proofs.Booleans.{true_is_false}
use Rattle.laws.proofs.Sets.{any_some, some_any, on_keep, keep_kept, keep_agrees, below_lt, lt_below, member_has, not_has}
use Rattle.flags.specs.Flags.{set_of, flags_of}
use Rattle.flags.proofs.Flags.{flag_member, member_flag, flags_of_length, flags_of_flag}
use Rattle.bits.specs.Bits.{bit_at}
use Rattle.bits.specs.Spread.{Spread}
use Rattle.bits.proofs.Bits.{bit_none}

pub has_kept : (f : ℕ → Bool) (n i : ℕ) → i < n → has i (keep f (below n)) ≡ f i
has_kept f n i h = go (f i) refl
  where
    go : (b : Bool) → f i ≡ b → has i (keep f (below n)) ≡ f i
    go true e = member_has (keep_kept f (lt_below n h) e) ∙ sym e
    go false e = not_has (λ m. true_is_false (on_keep {P = λ j. f j ≡ true} f (below n) (λ j k p. p) i m) e) ∙ sym e

pub has_set : (flags : List Bool) (i : ℕ) → has i (set_of flags) ≡ get_or flags i false
has_set flags i = go (get_or flags i false) refl
  where
    go : (b : Bool) → get_or flags i false ≡ b → has i (set_of flags) ≡ get_or flags i false
    go true e = member_has (flag_member flags e) ∙ sym e
    go false e = not_has (λ m. true_is_false (member_flag flags m) e) ∙ sym e

pub set_kept : (f : ℕ → Bool) (n : ℕ) → set_of (flags_of n (keep f (below n))) ≡ keep f (below n)
unfolding set_of
set_kept f n =
    let l : List ℕ = keep f (below n) in
    ap (λ m. keep (λ i. get_or (flags_of n l) i false) (below m)) (flags_of_length n l)
    ∙ keep_agrees (λ i. get_or (flags_of n l) i false) f (below n) (λ i m. let h : i < n = below_lt n i m in flags_of_flag n l i h ∙ has_kept f n i h)

pub none_from : (n : ℕ) (flags : List Bool) → any (λ i. leb n i) (set_of flags) ≡ false → (i : ℕ) → n ≤ i → get_or flags i false ≡ false
none_from n flags none i h = go (get_or flags i false) refl
  where
    go : (b : Bool) → get_or flags i false ≡ b → get_or flags i false ≡ false
    go true e = absurd (true_is_false (some_any (λ j. leb n j) (flag_member flags e) (le-leb n i h)) none)
    go false e = e

pub from_none : (n : ℕ) (flags : List Bool) → ((i : ℕ) → n ≤ i → get_or flags i false ≡ false) → any (λ i. leb n i) (set_of flags) ≡ false
from_none n flags h = go (any (λ i. leb n i) (set_of flags)) refl
  where
    go : (b : Bool) → any (λ i. leb n i) (set_of flags) ≡ b → any (λ i. leb n i) (set_of flags) ≡ false
    go true e =
        let found = any_some (λ i. leb n i) (set_of flags) e in
        absurd (true_is_false (member_flag flags found.1) (h found.0 (leb-true n found.0 found.2)))
    go false e = e

pub record Upto (f : ℕ → Bool) (m n : ℕ) (flags : List Bool) : Type 0 where
  pub long : length flags ≡ n
  pub done : (i : ℕ) → i < m → get_or flags i false ≡ f i
  pub rest : (i : ℕ) → m ≤ i → get_or flags i false ≡ false

pub upto_none : (f : ℕ → Bool) (n : ℕ) → Upto f 0 n (replicate n false)
upto_none f n = record {
  long = length-replicate n false;
  done = λ i h. absurd (not-suc-le-zero h);
  rest = λ i h. by_cases (dec_lt i n) (λ l. get_or-replicate n i false false l) (λ g. get_or-eq_default (replicate n false) false (omega (arith, length-replicate n false)));
}

module _ (f : ℕ → Bool) (m n : ℕ) where
  pub spread_zero : (count w : ℕ) (flags : List Bool) → Upto f m n flags → w ≡ 0 → Spread m count w flags flags
  spread_zero count w flags u e = record {
    long = refl;
    here = λ j h. u.rest (m + j) (omega arith) ∙ sym (ap (λ x. bit_at x j) e ∙ bit_none j);
    lower = λ i h. refl;
    upper = λ i h. refl;
  }

  pub upto_spread : (count w : ℕ) (before after : List Bool) → Upto f m n before → Spread m count w before after → ((j : ℕ) → j < count → bit_at w j ≡ f (m + j)) → Upto f (m + count) n after
  upto_spread count w before after u s e = record {
    long = s.long ∙ u.long;
    done = λ i h. by_cases (dec_lt i m)
        (λ l. s.lower i l ∙ u.done i l)
        (λ g. let t : m + (i - m) ≡ i = omega arith in subst (λ k. get_or after k false ≡ f k) t (s.here (i - m) (omega arith) ∙ e (i - m) (omega arith)));
    rest = λ i h. s.upper i h ∙ u.rest i (omega arith);
  }

pub upto_flags : (f : ℕ → Bool) (n : ℕ) (flags : List Bool) → Upto f n n flags → flags ≡ flags_of n (keep f (below n))
upto_flags f n flags u = ext_get_or false flags (flags_of n (keep f (below n))) (u.long ∙ sym (flags_of_length n (keep f (below n))))
    (λ i h. let k : i < n = omega (arith, u.long) in u.done i k ∙ sym (flags_of_flag n (keep f (below n)) i k ∙ has_kept f n i k))
