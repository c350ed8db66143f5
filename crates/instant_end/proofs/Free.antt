-- Aborts among the live agents, looked for from the highest agent on.
--     Free                     none is one from agent i on
--     free_none, free_more     no agent is looked at; agent i is
--     free_all                 all are: none aborts
use mathlib.Core.Path.{◌≡◌, refl, sym, ap, subst, subst⁻¹}
use mathlib.Core.Bool.{Bool, true, false}
use mathlib.Core.List.{List, Memᴰ}
use Prim.Native.Nat.{ℕ, ◌+◌, ◌≤◌}
use native.Mathlib.Decide.{ℕ_discrete}
use native.Mathlib.Omega.{arith}
use lib.ListN.{length, get_or-eq_default}
use Rattle.laws.specs.Sets.{any}
use Rattle.laws.proofs.Booleans.{true_is_false}
use Rattle.laws.proofs.Sets.{any_some}
use Rattle.tcc.specs.Score.{Score, agent_at}
use Rattle.tcc.specs.Instant.{is_abort}
use Rattle.tcc.specs.declared.Agent.TheVariants.{Skip}

module _ (sc : Score) (live : List ℕ) where
  abbrev pub Free : ℕ → Type 0
  Free i = (j : ℕ) → i ≤ j → Memᴰ j live → is_abort (agent_at sc j) ≡ false

  pub free_none : (i : ℕ) → length sc.agents ≤ i → Free i
  free_none i all j le m = ap is_abort (get_or-eq_default sc.agents Skip (omega arith))

  pub free_more : (n i : ℕ) → n ≤ i + 1 → Free n → (Memᴰ i live → is_abort (agent_at sc i) ≡ false) → Free i
  free_more n i next free here j le m = go (ℕ_discrete j i)
    where
      go : Dec (j ≡ i) → is_abort (agent_at sc j) ≡ false
      go (yes e) = subst⁻¹ (λ n. is_abort (agent_at sc n) ≡ false) e (here (subst (λ n. Memᴰ n live) e m))
      go (no d) = free j (omega arith) m

  pub free_all : Free 0 → false ≡ any (λ j. is_abort (agent_at sc j)) live
  free_all free = go (any (λ j. is_abort (agent_at sc j)) live) refl
    where
      go : (b : Bool) → any (λ j. is_abort (agent_at sc j)) live ≡ b → false ≡ any (λ j. is_abort (agent_at sc j)) live
      go true e = let x = any_some (λ j. is_abort (agent_at sc j)) live e in absurd (true_is_false x.2 (free x.0 (omega arith) x.1))
      go false e = sym e
