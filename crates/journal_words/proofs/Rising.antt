-- Laws of tokens that rise strictly, below a bound.
--     none_rising, one_rising, more_rising      no token, one, one before others
--     rising_within      the bound may be any that each token is below
--     kept_rising        the numbers below n that a test keeps
--     flags_rising, tokens_in_rising, output_rising    the tokens flagged, those in a map and those of an output
--     rising_set, rising_map     rising tokens come back from their flags and from their map
use mathlib.Core.Path.{◌≡◌, refl}
use mathlib.Core.Bool.{Bool, false}
use mathlib.Core.List.{List, [], ◌∷◌, Memᴰ}
use Prim.Native.Nat.{ℕ, suc, ◌+◌, ◌-◌, ◌<◌, ◌≤◌}
use native.Mathlib.Omega.{arith}
use borrow.Author.Tests.{lt-ltb}
use lib.Dec.{ltb}
use lib.ListN.{length, get_or}
use Rattle.laws.specs.Sets.{Same, below, keep, has}
use Rattle.laws.specs.Rising.{none, one, more}
use Rattle.laws.proofs.Sets.{Within, on_cons, on_keep, keep_kept, below_lt, same_trans}
use Rattle.laws.proofs.Rising.{rising_keep, rising_images, below_rising, rising_unique}
use Rattle.tcc.specs.Score.{Score}
use Rattle.tcc.specs.Instant.{ports, output}
use Rattle.tcc.proofs.Output.{ports_between, output_either}
use Rattle.words.specs.Map.{in_map}
use Rattle.flags.specs.Flags.{set_of, flags_of}
use Rattle.flags.proofs.Flags.{flags_of_member, member_flags_of}
use Rattle.lent_maps.specs.Maps.{tokens_in, map_of}
use Rattle.lent_maps.proofs.Round.{map_round}
use Rattle.journal_words.specs.History.{RisingBelow}

pub none_rising : {T : ℕ} → RisingBelow T []
none_rising = record { rises = none; below = λ t m. elim m [ ] }

pub one_rising : {T t : ℕ} → t < T → RisingBelow T (t ∷ [])
one_rising {T} h = record { rises = one; below = on_cons {P = λ t. t < T} h (λ t m. elim m [ ]) }

pub more_rising : {T t u : ℕ} {l : List ℕ} → t < u → RisingBelow T (u ∷ l) → RisingBelow T (t ∷ u ∷ l)
more_rising {T} {t} {u} h r = record { rises = more h r.rises; below = on_cons {P = λ x. x < T} (omega (arith, r.below u (Memᴰ.head refl))) r.below }

pub rising_within : {T U : ℕ} {l : List ℕ} → RisingBelow T l → Within (λ t. t < U) l → RisingBelow U l
rising_within r h = record { rises = r.rises; below = h }

pub kept_rising : (f : ℕ → Bool) (n : ℕ) → RisingBelow n (keep f (below n))
kept_rising f n = record { rises = rising_keep f (below n) (below_rising n); below = on_keep {P = λ t. t < n} f (below n) (λ t m e. below_lt n t m) }

pub flags_rising : (flags : List Bool) → RisingBelow (length flags) (set_of flags)
unfolding set_of
flags_rising flags = kept_rising (λ i. get_or flags i false) (length flags)

pub tokens_in_rising : (m : List ℕ) → RisingBelow 256 (tokens_in m)
unfolding tokens_in
tokens_in_rising m = kept_rising (in_map m) 256

pub output_rising : (sc : Score) (status : ℕ) (store : List ℕ) → sc.lowest_port ≤ sc.highest_port → sc.highest_port < sc.tokens → RisingBelow sc.tokens (output sc status store)
output_rising sc status store h g = output_either sc status (RisingBelow sc.tokens) store none_rising
    (record {
      rises = rising_keep (λ t. has t store) (ports sc) (rising_images (λ t. sc.lowest_port + t) (λ x y lt. omega arith) (below_rising (suc sc.highest_port - sc.lowest_port)));
      below = on_keep {P = λ t. t < sc.tokens} (λ t. has t store) (ports sc) (λ t m e. omega (arith, (ports_between sc t m).1));
    })

pub rising_set : (n T : ℕ) (l : List ℕ) → T ≤ n → RisingBelow T l → set_of (flags_of n l) ≡ l
rising_set n T l h r = rising_unique (flags_rising (flags_of n l)).rises r.rises (λ t. (flags_of_member n l, λ m. member_flags_of n l (let k : t < T = r.below t m in omega arith) m))

pub rising_map : (T : ℕ) (l : List ℕ) → T ≤ 256 → RisingBelow T l → tokens_in (map_of l) ≡ l
rising_map T l h r = rising_unique (tokens_in_rising (map_of l)).rises r.rises (same_trans (map_round l) kept)
  where
    kept : Same (keep (λ t. ltb t 256) l) l
    kept t = (
      λ m. on_keep {P = λ u. Memᴰ u l} (λ u. ltb u 256) l (λ u k p. k) t m,
      λ m. keep_kept (λ u. ltb u 256) m (lt-ltb t 256 (let k : t < T = r.below t m in omega arith)),
    )
