-- At most 257 passes: each but the last adds one of 256 tokens.
--     count_one          a store has one count of passes
--     one_count          so it is for every score
--     count_few          with the tokens given, at most 257
--     pass_bound         each pass but the last adds a token, and there are at most 257
use mathlib.Core.Path.{◌≡◌, refl, ap, ◌∙◌}
use mathlib.Core.Bool.{Bool, false}
use mathlib.Core.List.{List}
use Prim.Native.Nat.{ℕ, zero, suc, ◌+◌, ◌<◌, ◌≤◌}
use native.Mathlib.Omega.{arith}
use lib.ListN.{length, get_or}
use Rattle.laws.proofs.Booleans.{true_is_false}
use Rattle.tcc.specs.Closure.{Rule}
use Rattle.flags.specs.Flags.{set_of}
use Rattle.instant_store.specs.PassBound.{pass, after, Adds, PassCount, last, more, OneCount, PassBound}
use Rattle.flags.proofs.Flags.{set_length_le}
use Rattle.instant_store.proofs.Pass.{pass_long, pass_kept, adds_longer}

module _ (rules : List (Rule ℕ)) where
  not_still : (store : List Bool) → Adds store (pass rules store) → pass rules store ≡ store → ⊥
  not_still store a e = true_is_false a.comes_in (ap (λ l. get_or l a.token false) e ∙ a.out)

  pub count_one : {store : List Bool} {n m : ℕ} → PassCount rules store n → PassCount rules store m → n ≡ m
  count_one (last e) (last f) = refl
  count_one (last e) (more a rest) = absurd (not_still _ a e)
  count_one (more a rest) (last e) = absurd (not_still _ a e)
  count_one (more a rest) (more b other) = ap suc (count_one rest other)

  pub count_few : {store : List Bool} {n : ℕ} → PassCount rules store n → length store ≡ 256 → length (set_of store) + n ≤ 257
  count_few {store} (last e) long = omega (arith, set_length_le store)
  count_few {store} (more a rest) long = omega (arith, count_few rest (pass_long rules store ∙ long), adds_longer store (pass rules store) a (pass_long rules store) (pass_kept rules store))

  count_adding : {store : List Bool} {n : ℕ} → PassCount rules store n → (k : ℕ) → suc k < n → Adds (after rules k store) (after rules (suc k) store)
  count_adding (last e) k lt = absurd (omega arith)
  count_adding (more a rest) zero lt = a
  count_adding (more a rest) (suc k) lt = count_adding rest k (omega arith)

pub one_count : OneCount
one_count sc tokens n₁ n₂ p q = count_one sc.rules p q

pub pass_bound : PassBound
pass_bound sc tokens passes long h = record {
  adding = count_adding sc.rules h;
  bound = omega (arith, count_few sc.rules h long);
}
