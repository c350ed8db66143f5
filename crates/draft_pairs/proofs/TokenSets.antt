-- Laws of sets of tokens as numbers, and of pairs.
--     holds_with, holds_none        what is in a set with a token added; nothing is in the empty set
--     with_bound, with_held         it stays below 2 to the power of n; a token that is in adds nothing
--     same_holds                    sets with the same tokens are the same number
--     member_holds, holds_member    the members are the tokens below 256 that are in
--     members_rising, members_none  the members rise; a set without members is empty
--     sum_of, sum_holds, sum_bound   the number of a list of tokens
--     number_pair, set_pair, pair_parts, set_bound, pair_before      a pair and its parts; pairs compare by number first
use mathlib.Core.Path.{◌≡◌, refl, sym, ap, subst, ◌∙◌}
use mathlib.Core.Bool.{Bool, true, false, cond, ◌||◌}
use mathlib.Core.List.Memᴰ
use mathlib.Core.List.{List, [], ◌∷◌, Memᴰ}
use mathlib.Core.Logic.{by_cases}
use Prim.Native.Nat.{ℕ, zero, suc, ◌+◌, ◌*◌, ◌-◌, ◌/◌, ◌%◌, ◌^◌, ◌<◌}
use native.Mathlib.Decide.{dec_lt, ℕ_discrete}
use native.Mathlib.Nat.{add-div_right, add-mul-div_right, add-mul-mod_self_right, div-lt_iff_lt-mul, div-mul-le_self, div-one, lt_of_lt_of_le, mod-lt, pow-suc}
use native.Mathlib.Omega.{arith}
use borrow.Author.Tests.{eqb-true, eqb-false, eq-eqb, ne_eqb}
use lib.Dec.{eqb}
use lib.Pow.{pow_pos, pow-add, shr_lt, shr-shr, split, high, low}
use Rattle.laws.specs.Sets.{below, has}
use Rattle.laws.specs.Rising.{Rising}
use Rattle.laws.proofs.Booleans.{by_test, cond_true}
use Rattle.laws.proofs.Sets.{on_keep, keep_kept, below_lt, lt_below}
use Rattle.laws.proofs.Rising.{rising_keep, below_rising}
use Rattle.words.specs.Word.{field}
use Rattle.bits.proofs.Bits.{bit_none}
use Rattle.draft_pairs.specs.TokenSets.{holds, with, members}
use Rattle.draft_pairs.specs.Pairs.{pair, number_in, set_in}

-- a binary digit by its test
digit : (n : ℕ) → n % 2 ≡ cond (eqb (n % 2) 1) 1 0
digit n = by_test (λ k. n % 2 ≡ k) (eqb (n % 2) 1) (λ e. eqb-true (n % 2) 1 e) (λ e. let d = eqb-false (n % 2) 1 e in omega arith)

-- 2 ^ t added to a set: a lower digit
added_below : (t set m u : ℕ) → t ≡ suc m + u → (set + 2 ^ t) / 2 ^ u % 2 ≡ set / 2 ^ u % 2
added_below t set m u e =
    ap (λ k. (set + k) / 2 ^ u % 2) (ap (λ k. 2 ^ k) e ∙ pow-add 2 (suc m) u ∙ ap (λ k. k * 2 ^ u) (pow-suc 2 m))
    ∙ ap (λ k. k % 2) (add-mul-div_right set (2 ^ m * 2) (pow_pos u))
    ∙ add-mul-mod_self_right (set / 2 ^ u) (2 ^ m) 2

-- where the set does not hold t: the digit of t, the quotient by a higher power, and the bound
module _ (t set : ℕ) (clear : holds set t ≡ false) where
  even : set / 2 ^ t % 2 ≡ 0
  unfolding holds
  even = digit (set / 2 ^ t) ∙ ap (λ b. cond b 1 0) clear

  added_here : (set + 2 ^ t) / 2 ^ t % 2 ≡ 1
  added_here = omega (arith, even, add-div_right set (pow_pos t))

  added_above : (m u : ℕ) → u ≡ t + 1 + m → (set + 2 ^ t) / 2 ^ u ≡ set / 2 ^ u
  added_above m u e = halved (set + 2 ^ t) ∙ ap (λ k. k / 2 ^ m) half ∙ sym (halved set)
    where
      half : (set + 2 ^ t) / 2 ^ t / 2 ≡ set / 2 ^ t / 2
      half = omega (arith, even, add-div_right set (pow_pos t))

      halved : (n : ℕ) → n / 2 ^ u ≡ n / 2 ^ t / 2 / 2 ^ m
      halved n = ap (λ k. n / 2 ^ k) e ∙ sym (ap (λ k. k / 2 ^ m) (shr-shr n t 1) ∙ shr-shr n (t + 1) m)

  added_bound : (m n : ℕ) → n ≡ suc m + t → set < 2 ^ n → set + 2 ^ t < 2 ^ n
  added_bound m n e b =
      let small : (set + 2 ^ t) / 2 ^ t < 2 ^ suc m = omega (arith, even, add-div_right set (pow_pos t), shr_lt (suc m) t (rw e at b), pow-suc 2 m) in
      rw (e, pow-add 2 (suc m) t) ((div-lt_iff_lt-mul (pow_pos t)).0 small)

with_here : (t set : ℕ) → holds (with t set) t ≡ true
unfolding with holds
with_here t set = by_test (λ k. holds k t ≡ true) (holds set t) (λ e. e) (λ e. eq-eqb ((set + 2 ^ t) / 2 ^ t % 2) 1 (added_here t set e))

with_other : (t u set : ℕ) → (u ≡ t → ⊥) → holds (with t set) u ≡ holds set u
unfolding with holds
with_other t u set d = by_test (λ k. holds k u ≡ holds set u) (holds set t) (λ e. refl) (λ e. ap (λ k. eqb k 1) (by_cases (dec_lt u t)
    (λ l. added_below t set (t - u - 1) u (omega arith))
    (λ g. ap (λ k. k % 2) (added_above t set e (u - t - 1) u (omega arith)))))

pub holds_with : (t u set : ℕ) → holds (with t set) u ≡ (eqb u t || holds set u)
holds_with t u set = by_cases (ℕ_discrete u t)
    (λ e. ap (holds (with t set)) e ∙ with_here t set ∙ sym (ap (λ b. b || holds set u) (eq-eqb u t e)))
    (λ d. with_other t u set d ∙ sym (ap (λ b. b || holds set u) (ne_eqb u t d)))

pub holds_none : (t : ℕ) → holds 0 t ≡ false
unfolding holds field
holds_none t = bit_none t

pub with_bound : (n t set : ℕ) → t < n → set < 2 ^ n → with t set < 2 ^ n
unfolding with
with_bound n t set h b = by_test (λ k. k < 2 ^ n) (holds set t) (λ e. b) (λ e. added_bound t set e (n - t - 1) n (omega arith) b)

pub with_held : (t set : ℕ) → holds set t ≡ true → with t set ≡ set
unfolding with
with_held t set h = sym (cond_true (set + 2 ^ t) h refl)

-- by halves
holds_first : (n : ℕ) → holds n 0 ≡ eqb (n % 2) 1
unfolding holds
holds_first n = ap (λ k. eqb (k % 2) 1) (div-one n)

holds_rest : (n t : ℕ) → holds n (1 + t) ≡ holds (n / 2) t
unfolding holds
holds_rest n t = ap (λ k. eqb (k % 2) 1) (sym (shr-shr n 1 t))

pub same_holds : (n a b : ℕ) → a < 2 ^ n → b < 2 ^ n → ((t : ℕ) → t < n → holds a t ≡ holds b t) → a ≡ b
same_holds zero a b p q h = omega arith
same_holds (suc n) a b p q h =
    let first : eqb (a % 2) 1 ≡ eqb (b % 2) 1 = sym (holds_first a) ∙ h 0 (omega arith) ∙ holds_first b in
    let rest : a / 2 ≡ b / 2 = same_holds n (a / 2) (b / 2) (omega (arith, pow-suc 2 n)) (omega (arith, pow-suc 2 n)) (λ t l. sym (holds_rest a t) ∙ h (1 + t) (omega arith) ∙ holds_rest b t) in
    omega (arith, digit a ∙ ap (λ c. cond c 1 0) first ∙ sym (digit b))

pub member_holds : (set : ℕ) {t : ℕ} → Memᴰ t (members set) → (t < 256) × (holds set t ≡ true)
unfolding members
member_holds set {t} m = on_keep {P = λ u. (u < 256) × (holds set u ≡ true)} (λ u. holds set u) (below 256) (λ u k e. (below_lt 256 u k, e)) t m

pub holds_member : (set : ℕ) {t : ℕ} → t < 256 → holds set t ≡ true → Memᴰ t (members set)
unfolding members
holds_member set h e = keep_kept (λ u. holds set u) (lt_below 256 h) e

pub members_rising : (set : ℕ) → Rising (members set)
unfolding members
members_rising set = rising_keep (λ t. holds set t) (below 256) (below_rising 256)

pub members_none : (set : ℕ) → set < 2 ^ 256 → members set ≡ [] → set ≡ 0
members_none set b e = same_holds 256 set 0 b (pow_pos 256) (λ t h. go t h (holds set t) refl ∙ sym (holds_none t))
  where
    go : (t : ℕ) → t < 256 → (c : Bool) → holds set t ≡ c → holds set t ≡ false
    go t h true held = absurd (Memᴰ.not-nil (subst (Memᴰ t) e (holds_member set h held)))
    go t h false clear = clear

abbrev pub sum_of : List ℕ → ℕ
sum_of [] = 0
sum_of (t ∷ l) = with t (sum_of l)

pub sum_holds : (l : List ℕ) (t : ℕ) → holds (sum_of l) t ≡ has t l
sum_holds [] t = holds_none t
sum_holds (u ∷ l) t = holds_with u t (sum_of l) ∙ ap (λ b. eqb t u || b) (sum_holds l t)

pub sum_bound : (n : ℕ) (l : List ℕ) → ((t : ℕ) → Memᴰ t l → t < n) → sum_of l < 2 ^ n
sum_bound n [] h = pow_pos n
sum_bound n (t ∷ l) h = with_bound n t (sum_of l) (h t (Memᴰ.head refl)) (sum_bound n l (λ u m. h u (Memᴰ.tail m)))

pub number_pair : (n set : ℕ) → set < 2 ^ 256 → number_in (pair n set) ≡ n
unfolding number_in pair
number_pair n set b = high n 256 b

pub set_pair : (n set : ℕ) → set < 2 ^ 256 → set_in (pair n set) ≡ set
unfolding set_in pair
set_pair n set b = low n 256 b

pub pair_parts : (k : ℕ) → pair (number_in k) (set_in k) ≡ k
unfolding pair number_in set_in
pair_parts k = split k 256

pub set_bound : (k : ℕ) → set_in k < 2 ^ 256
unfolding set_in
set_bound k = mod-lt k (pow_pos 256)

pub pair_before : (k m : ℕ) → number_in k < number_in m → k < m
unfolding number_in
pair_before k m h = lt_of_lt_of_le ((div-lt_iff_lt-mul (pow_pos 256)).0 h) (div-mul-le_self m (2 ^ 256))
