-- "The store is a set of tokens closed under the rules: both premises in, so is the conclusion (equal premises count
-- as one). Token 0 is the clash. A store that holds it holds all T tokens."
--     Derived        what derives a token from given ones: told, by a rule, by the clash
--     Closes         a store holds exactly what derives from the given tokens
--     closure        the store, computed
use Rattle.std.specs.Prelude.{◌≡◌, ℕ, ◌<◌, eqb}
use mathlib.Core.List.{List, [], ◌∷◌, ◌++◌, map, Memᴰ}
use Rattle.laws.specs.Sets.{below}
use Rattle.tcc.specs.Closure.{Rule, close}
use Rattle.tcc.specs.Score.{Score}

pub data Derived (sc : Score) (given : List ℕ) : ℕ → Type 0 where
  told : {t : ℕ} → Memᴰ t given → Derived sc given t
  by_rule : {t : ℕ} (r : Rule ℕ) → Memᴰ r sc.rules → ((p : ℕ) → Memᴰ p r.premises → Derived sc given p) → r.conclusion ≡ t → Derived sc given t
  by_clash : {t : ℕ} → Derived sc given 0 → t < sc.tokens → Derived sc given t

abbrev pub Closes : Score → List ℕ → List ℕ → Type 0
Closes sc given store = (t : ℕ) → (Memᴰ t store → Derived sc given t) × (Derived sc given t → Memᴰ t store)

-- the clash as rules: token 0 brings each token below T
abbrev pub store_rules : Score → List (Rule ℕ)
store_rules sc = sc.rules ++ map (λ t. record { premises = 0 ∷ []; conclusion = t }) (below sc.tokens)

unfoldable pub closure : Score → List ℕ → List ℕ
closure sc given = close eqb (store_rules sc) given
