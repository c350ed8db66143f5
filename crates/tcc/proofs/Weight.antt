-- Of an accepted score the equations of weight have exactly one solution on its agents, the computed one.
--     weighs_agrees     the right-hand side looks at nothing but what the agent needs
--     one_weight        the theorem
use mathlib.Core.Path.{◌≡◌, refl}
use mathlib.Core.List.Memᴰ
use Prim.Native.Nat.{ℕ}
use native.Mathlib.Omega.{arith}
use Rattle.laws.proofs.Sets.{Within}
use Rattle.tcc.specs.Score.{Score, root_of}
use Rattle.tcc.specs.Weight.{weighs, weight_within}
use Rattle.tcc.specs.WeightBound.{OneWeight}
use Rattle.tcc.specs.declared.Agent.{Agent}
use Rattle.tcc.specs.declared.Agent.TheVariants.{Skip, Abort, Tell, Parallel, When, Next, Unless, Call}
use Rattle.tcc.proofs.Rank.{needs, unfolded_solves, solution_unfolded}

weighs_agrees : (sc : Score) (v w : ℕ → ℕ) (a : Agent) → Within (λ b. v b ≡ w b) (needs sc a) → weighs sc v a ≡ weighs sc w a
weighs_agrees sc v w Skip h = refl
weighs_agrees sc v w Abort h = refl
weighs_agrees sc v w (Tell t) h = refl
weighs_agrees sc v w (Parallel a b) h = omega (arith, h a (Memᴰ.head refl), h b (Memᴰ.tail (Memᴰ.head refl)))
weighs_agrees sc v w (When t b) h = omega (arith, h b (Memᴰ.head refl))
weighs_agrees sc v w (Next b) h = refl
weighs_agrees sc v w (Unless t b) h = refl
weighs_agrees sc v w (Call p) h = omega (arith, h (root_of sc p) (Memᴰ.head refl))

pub one_weight : OneWeight
one_weight sc law = (
  unfolded_solves sc law (weighs sc) (weighs_agrees sc) (weight_within sc) (λ n i. refl),
  solution_unfolded sc law (weighs sc) (weighs_agrees sc) (weight_within sc) (λ n i. refl),
)
