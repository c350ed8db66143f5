-- The computed store is exactly what derives from the given tokens.
--     follows_rules, follows_clash, store_follows     closed under `store_rules` is what the rules and the clash keep
--     derived_follows    so is `Derived`
--     derived_least      and it is the least above the given tokens
--     closure_exact      so the store computed is the one derived
--     closes_above, closes_follows, closes_least     the same of any store that closes given tokens
use mathlib.Core.Path.{refl, subst}
use mathlib.Core.List.Memᴰ
use mathlib.Core.List.{List, [], ◌∷◌, Memᴰ}
use Prim.Native.Nat.{ℕ, ◌<◌}
use lib.Dec.{eqb}
use Rattle.laws.specs.Sets.{below}
use Rattle.laws.proofs.Sets.{Within, Among, on_cons, on_append, on_map, map_member, below_lt, lt_below}
use Rattle.tcc.specs.Score.{Score}
use Rattle.tcc.specs.Store.{Derived, told, by_rule, by_clash, Closes, store_rules, closure}
use Rattle.tcc.proofs.Closure.{Passes, Follows, close_above, close_closed, close_least, eqb_decides}

module _ (sc : Score) where
  pub follows_rules : {P : ℕ → Type 0} → Follows P (store_rules sc) → Follows P sc.rules
  follows_rules {P} h r m = h r (Memᴰ.append_left _ m)

  pub follows_clash : {P : ℕ → Type 0} → Follows P (store_rules sc) → (t : ℕ) → P 0 → t < sc.tokens → P t
  follows_clash {P} h t p l = h _ (Memᴰ.append_right sc.rules (map_member (λ k. record { premises = 0 ∷ []; conclusion = k }) (lt_below sc.tokens l))) (on_cons p (λ x m. elim m [ ]))

  pub store_follows : {P : ℕ → Type 0} → Follows P sc.rules → ((t : ℕ) → P 0 → t < sc.tokens → P t) → Follows P (store_rules sc)
  store_follows {P} rules clash = on_append sc.rules rules (on_map (Passes P) _ (below sc.tokens) (λ t m h. clash t (h 0 (Memᴰ.head refl)) (below_lt sc.tokens t m)))

  module _ (given : List ℕ) where
    pub derived_follows : Follows (Derived sc given) (store_rules sc)
    derived_follows = store_follows (λ r m h. by_rule r m h refl) (λ t d l. by_clash d l)

    pub derived_least : (P : ℕ → Type 0) → Follows P (store_rules sc) → Within P given → (t : ℕ) → Derived sc given t → P t
    derived_least P h start t (told m) = start t m
    derived_least P h start t (by_rule r m premises e) = subst P e (follows_rules h r m (λ p k. derived_least P h start p (premises p k)))
    derived_least P h start t (by_clash d l) = follows_clash h t (derived_least P h start 0 d) l

    pub closes_above : (s : List ℕ) → Closes sc given s → Among given s
    closes_above s h t m = (h t).1 (told m)

    pub closes_follows : (s : List ℕ) → Closes sc given s → Follows (λ t. Memᴰ t s) (store_rules sc)
    closes_follows s h r m premises = (h r.conclusion).1 (derived_follows r m (λ p k. (h p).0 (premises p k)))

    pub closes_least : (P : ℕ → Type 0) (s : List ℕ) → Closes sc given s → Follows P (store_rules sc) → Within P given → Within P s
    closes_least P s h follows start t m = derived_least P follows start t ((h t).0 m)

    pub closure_exact : Closes sc given (closure sc given)
    unfolding closure
    closure_exact t = (
      close_least eqb eqb_decides (Derived sc given) (store_rules sc) given derived_follows (λ x m. told m) t,
      derived_least (λ x. Memᴰ x (closure sc given)) (close_closed eqb eqb_decides (store_rules sc) given) (close_above eqb (store_rules sc) given) t,
    )
