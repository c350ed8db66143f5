-- Laws of the tokens of a set, and of the rules from them.
--     pair_first, pair_added     a pair of number 0 is its set, also where a token was added to that of another pair
--     holds_high, held_in_lem    the set of a pair has no token from 256 on, and none that the pair as a number does not hold
--     members_from               the members of a set from a token on, below a bound
--     members_first, members_later     from 0 on they are all, where none is above the bound; where a token is not in the set, they are those from the next one on
--     rules_more                 a set more has as many rules more as it has members
use mathlib.Core.Path.{◌≡◌, refl, ap, subst, ◌∙◌}
use mathlib.Core.Bool.{true, false}
use mathlib.Core.List.{List, [], ◌∷◌, ◌++◌, map, Memᴰ}
use mathlib.Core.Logic.{by_cases}
use Prim.Native.Nat.{ℕ, suc, ◌+◌, ◌-◌, ◌%◌, ◌<◌, ◌≤◌}
use native.Mathlib.Decide.{dec_lt}
use native.Mathlib.Nat.{zero-add, lt_of_lt_of_le, div-eq_of_lt}
use native.Mathlib.Omega.{arith}
use lib.Dec.{eqb}
use Rattle.std.specs.List.{filter, range_with_len}
use lib.ListN.{length, length-append, length-map}
use lib.Pow.{pow_mono}
use Rattle.laws.proofs.Booleans.{true_is_false}
use Rattle.draft_language.proofs.Carries.{member_rule}
use Rattle.draft_pairs.specs.TokenSets.{holds, with, members}
use Rattle.draft_pairs.specs.Pairs.{pair, number_in, set_in}
use Rattle.draft_pairs.proofs.TokenSets.{with_bound, member_holds, holds_member, set_pair, set_bound}
use Rattle.draft_pairs.proofs.Rows.{members_set, members_below}
use Rattle.draft_plain.specs.Plain.{member_rules}

pub pair_first : (set : ℕ) → pair 0 set ≡ set
unfolding pair
pair_first set = zero-add set

pub pair_added : (k t : ℕ) → t < 256 → pair 0 (set_in (pair (number_in k) (with t (set_in k)))) ≡ with t (set_in k)
pair_added k t h = pair_first (set_in (pair (number_in k) (with t (set_in k)))) ∙ set_pair (number_in k) (with t (set_in k)) (with_bound 256 t (set_in k) h (set_bound k))

holds_high : (k t : ℕ) → 256 ≤ t → holds (set_in k) t ≡ false
unfolding holds
holds_high k t h = ap (λ n. eqb (n % 2) 1) (div-eq_of_lt (lt_of_lt_of_le (set_bound k) (pow_mono h)))

pub held_in_lem : (k t : ℕ) → holds (set_in k) t ≡ true → holds k t ≡ true
held_in_lem k t h =
    by_cases (dec_lt t 256) (λ lt. (member_holds k (subst (Memᴰ t) (members_set k) (holds_member (set_in k) lt h))).1)
    (λ ge. absurd (true_is_false h (holds_high k t (omega arith))))

-- ---- the members from a token on
abbrev pub members_from : (set tokens t : ℕ) → List ℕ
members_from set tokens t = filter (holds set) (range_with_len t (tokens - t))

pub members_first : (set tokens : ℕ) → tokens ≤ 256 → ((t : ℕ) → holds set t ≡ true → t < tokens) → members_from set tokens 0 ≡ members set
members_first set tokens h bound = let all : tokens - 0 ≡ tokens = omega arith in rw all (members_below set tokens h bound)

pub members_later : (set tokens t : ℕ) → t < tokens → holds set t ≡ false → members_from set tokens t ≡ members_from set tokens (t + 1)
members_later set tokens t h clear = let one : tokens - t ≡ suc (tokens - (t + 1)) = omega arith in rw (one, clear) refl

-- ---- the rules of sets

pub rules_more : (u : ℕ) (sets : List ℕ) (set : ℕ) → length (member_rules u (sets ++ (set ∷ []))) ≡ length (member_rules u sets) + length (members set)
rules_more u [] set = omega (arith, length-append (map (member_rule u) (members set)) [], length-map (members set) (member_rule u))
rules_more u (s ∷ sets) set =
    let first = map (member_rule u) (members s) in
    omega (arith, length-append first (member_rules (suc u) (sets ++ (set ∷ []))), length-append first (member_rules (suc u) sets), rules_more (suc u) sets set)
