-- The three numbers add up to the number of settings, a binomial coefficient.
--     settings_long     how many settings there are
--     once, ending_once     each setting is counted once
--     add_up            the claim
--     choose_more       of one more there are no fewer ways to choose k
--     choose_over       there is no way to choose more than there are
--     sixteen, sixteen_most     of 16 there are at most 12,870 ways
--     choose_most       so of at most 16
--     three_most        and none of the three numbers of at most 16 switches is more
use mathlib.Core.Path.{◌≡◌, refl, ◌∙◌}
use mathlib.Core.Bool.{true, cond}
use mathlib.Core.List.{List, [], ◌∷◌, map}
use mathlib.Core.Logic.{by_cases}
use Prim.Native.Nat.{ℕ, zero, suc, ◌+◌, ◌≤◌, ◌<◌}
use native.Mathlib.Decide.{dec_lt, le_ind}
use native.Mathlib.Nat.{le_refl, le_trans, not-suc-le-zero}
use native.Mathlib.Omega.{arith}
use lib.Dec.{eqb, leb}
use lib.ListN.{length, length-append, length-map}
use borrow.Author.Tests.{leb-true}
use Rattle.laws.specs.Sets.{below, every}
use Rattle.laws.proofs.Sets.{every_each, lt_below}
use Rattle.tcc.specs.Score.{Score}
use Rattle.tcc.specs.Instant.{State, answer}
use Rattle.tcc.proofs.Status.{answer_status}
use Rattle.settings_tried.specs.Settings.{settings, ending, counts}
use Rattle.settings_tried.specs.Binomial.{choose, AddUp}
use Rattle.settings_tried.proofs.Counting.{ending_cons, counts_few}

pub settings_long : (k : ℕ) (l : List ℕ) → length (settings k l) ≡ choose (length l) k
settings_long zero l = refl
settings_long (suc k) [] = refl
settings_long (suc k) (t ∷ l) = omega (
  arith,
  length-append (map (λ s. t ∷ s) (settings k l)) (settings (suc k) l),
  length-map (settings k l) (λ s. t ∷ s),
  settings_long k l,
  settings_long (suc k) l,
)

once : (status : ℕ) → status < 3 → cond (eqb status 0) 1 0 + cond (eqb status 1) 1 0 + cond (eqb status 2) 1 0 ≡ 1
once zero h = refl
once (suc zero) h = refl
once (suc (suc zero)) h = refl
once (suc (suc (suc n))) h = absurd (omega arith)

ending_once : (sc : Score) (st : State) (l : List (List ℕ)) → ending sc st 0 l + ending sc st 1 l + ending sc st 2 l ≡ length l
ending_once sc st [] = refl
ending_once sc st (s ∷ l) = omega (arith, ending_cons sc st 0 s l, ending_cons sc st 1 s l, ending_cons sc st 2 s l, once (answer sc st s).status (answer_status sc st s), ending_once sc st l)

pub add_up : AddUp
unfolding counts
add_up sc st k switches = (settings_long k switches, ending_once sc st (settings k switches) ∙ settings_long k switches)

choose_more : (n k : ℕ) → choose n k ≤ choose (suc n) k
choose_more n zero = omega arith
choose_more n (suc k) = omega arith

choose_over : (n k : ℕ) → n < k → choose n k ≡ 0
choose_over n zero h = absurd (not-suc-le-zero h)
choose_over zero (suc k) h = refl
choose_over (suc n) (suc k) h = omega (arith, choose_over n k (omega arith), choose_over n (suc k) (omega arith))

sixteen : every (λ k. leb (choose 16 k) 12870) (below 17) ≡ true
sixteen = refl

sixteen_most : (k : ℕ) → choose 16 k ≤ 12870
sixteen_most k = by_cases (dec_lt k 17)
    (λ l. leb-true (choose 16 k) 12870 (every_each (λ j. leb (choose 16 j) 12870) (lt_below 17 l) sixteen))
    (λ g. omega (arith, choose_over 16 k (omega arith)))

pub choose_most : (n k : ℕ) → n ≤ 16 → choose n k ≤ 12870
choose_most n k h = le_trans (le_ind (λ m. choose n k ≤ choose m k) (le_refl (choose n k)) (λ m le so_far. le_trans so_far (choose_more m k)) 16 h) (sixteen_most k)

pub three_most : (sc : Score) (st : State) (k : ℕ) (switches : List ℕ) → length switches ≤ 16 →
    let c = counts sc st (settings k switches) in
    (c.quiet ≤ 12870) × (c.clashed ≤ 12870) × (c.aborted ≤ 12870)
three_most sc st k switches h =
    let few = counts_few sc st (settings k switches) in
    let most : length (settings k switches) ≤ 12870 = omega (arith, settings_long k switches, choose_most (length switches) k h) in
    (omega arith, omega arith, omega arith)
