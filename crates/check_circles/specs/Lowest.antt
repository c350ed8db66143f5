-- Contracts of inner functions: what is found on the way to row 7.
--     UnguardedCall      some procedure calls one unguarded
--     LowestOnCircle     p is the lowest procedure from which unguarded calls lead back to itself
--     NoneOnCircle       from no procedure do they
--     LowestCircular     the lowest procedure from which they do, or none where there is none
use Rattle.std.specs.Prelude.{◌≡◌, true, false, ℕ, ◌<◌, length, Option, MatchOption}
use Rattle.tcc.specs.Score.{Score, root_of}
use Rattle.tcc.specs.Unguarded.{Leads, circular}

pub record UnguardedCall (sc : Score) : Type 0 where
  pub caller : ℕ
  pub known : caller < length sc.roots
  pub callee : ℕ
  pub leads : Leads sc (root_of sc caller) callee

pub record LowestOnCircle (sc : Score) (p : ℕ) : Type 0 where
  pub known : p < length sc.roots
  pub below : (j : ℕ) → j < p → circular sc j ≡ false
  pub here : circular sc p ≡ true

pub record NoneOnCircle (sc : Score) : Type 0 where
  pub all : (j : ℕ) → j < length sc.roots → circular sc j ≡ false

abbrev pub LowestCircular : Score → Option ℕ → Type 0
LowestCircular sc r = MatchOption r (NoneOnCircle sc) (LowestOnCircle sc)
