-- Sets are lists: what matters of a set is its members.
--     Same          two sets have the same members
--     below         0, 1, .., n - 1
--     keep          the members of a list that pass a test, in its order
--     any, every    some element, each element of a list passes a test
--     has           whether a number is in a set
use Rattle.std.specs.Prelude.{Bool, true, false, cond, ◌&&◌, ◌||◌, ℕ, zero, suc, eqb}
use mathlib.Core.List.{List, [], ◌∷◌, ◌++◌, Memᴰ}

abbrev pub Same : {A : Type 0} → List A → List A → Type 0
Same {A} l k = (x : A) → (Memᴰ x l → Memᴰ x k) × (Memᴰ x k → Memᴰ x l)

abbrev pub below : ℕ → List ℕ
below zero = []
below (suc n) = below n ++ (n ∷ [])

abbrev pub keep : {A : Type 0} → (A → Bool) → List A → List A
keep f [] = []
keep f (x ∷ l) = cond (f x) (x ∷ keep f l) (keep f l)

abbrev pub any : {A : Type 0} → (A → Bool) → List A → Bool
any f [] = false
any f (x ∷ l) = f x || any f l

abbrev pub every : {A : Type 0} → (A → Bool) → List A → Bool
every f [] = true
every f (x ∷ l) = f x && every f l

abbrev pub has : ℕ → List ℕ → Bool
has n l = any (λ m. eqb n m) l
