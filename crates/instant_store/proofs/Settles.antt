-- When a store that is kept as flags is the closure of given tokens.
--     Drawn              256 flags that hold the given tokens, and nothing that does not derive from them
--     drawn_repeated     so does what passes leave of the given tokens
--     follows_repeated   and after the last pass it follows the rules
--     closed_flags       closed under the rules and the clash, they are the closure
--     closed_calm        without token 0, closed under the rules is enough
--     closed_clash       with it, the score's tokens all set are the closure
use mathlib.Core.Path.{◌≡◌, refl, sym, ap, subst⁻¹, ◌∙◌}
use mathlib.Core.Bool.{Bool, true, false}
use mathlib.Core.List.{List, [], ◌∷◌, Memᴰ}
use mathlib.Core.Logic.{⊎_elim}
use Prim.Native.Nat.{ℕ, zero, suc, ◌<◌}
use lib.ListN.{length, get_or, length-set}
use Rattle.laws.specs.Sets.{every}
use Rattle.laws.proofs.Booleans.{true_is_false, by_test}
use Rattle.laws.proofs.Sets.{Within, Among, every_each}
use Rattle.tcc.specs.Closure.{Rule}
use Rattle.tcc.specs.Score.{Score}
use Rattle.tcc.specs.Lawful.{Lawful}
use Rattle.tcc.specs.Store.{Derived, told, by_rule, by_clash, store_rules, closure}
use Rattle.tcc.proofs.Closure.{Follows}
use Rattle.tcc.proofs.Store.{store_follows, derived_least, closure_exact}
use Rattle.flags.specs.Flags.{set_of, flags_of}
use Rattle.instant_store.specs.PassBound.{applied, pass, after, PassCount, last, more}
use Rattle.instant_store.specs.Passes.{Repeated, Flooded}
use Rattle.flags.proofs.Flags.{flag_member, member_flag, set_kept, set_cases, flags_settled}
use Rattle.instant_store.proofs.Pass.{Flagged, pass_follows}

pub record Drawn (sc : Score) (given : List ℕ) (store : List Bool) : Type 0 where
  pub long : length store ≡ 256
  pub kept : Among given (set_of store)
  pub derived : Within (Derived sc given) (set_of store)

module _ (sc : Score) (given : List ℕ) where
  drawn_applied : (r : Rule ℕ) (store : List Bool) → Memᴰ r sc.rules → Drawn sc given store → Drawn sc given (applied r store)
  drawn_applied r store member h = by_test (Drawn sc given) (every (λ p. get_or store p false) r.premises)
      (λ all. record {
        long = length-set store r.conclusion true ∙ h.long;
        kept = λ t m. set_kept store r.conclusion (h.kept t m);
        derived = λ t m. ⊎_elim
            (λ (e : t ≡ r.conclusion). by_rule r member (λ p k. h.derived p (flag_member store (every_each (λ q. get_or store q false) k all))) (sym e))
            (λ (k : Memᴰ t (set_of store)). h.derived t k)
            (set_cases store r.conclusion m);
      })
      (λ _. h)

  drawn_pass : (rules : List (Rule ℕ)) (store : List Bool) → Among rules sc.rules → Drawn sc given store → Drawn sc given (pass rules store)
  drawn_pass [] store members h = h
  drawn_pass (r ∷ rules) store members h = drawn_pass rules (applied r store) (λ q m. members q (Memᴰ.tail m)) (drawn_applied r store (members r (Memᴰ.head refl)) h)

  drawn_after : (n : ℕ) (store : List Bool) → Drawn sc given store → Drawn sc given (after sc.rules n store)
  drawn_after zero store h = h
  drawn_after (suc n) store h = drawn_after n (pass sc.rules store) (drawn_pass sc.rules store (λ r m. m) h)

pub drawn_repeated : (sc : Score) (before later : List Bool) (n : ℕ) → length before ≡ 256 → Repeated sc before later n → Drawn sc (set_of before) later
drawn_repeated sc before later n long h = subst⁻¹ (Drawn sc (set_of before)) h.made (drawn_after sc (set_of before) n before (record { long = long; kept = λ t m. m; derived = λ t m. told m }))

-- one pass more would change nothing
count_settled : (rules : List (Rule ℕ)) {store : List Bool} {n : ℕ} → PassCount rules store n → pass rules (after rules n store) ≡ after rules n store
count_settled rules (last e) = ap (pass rules) e
count_settled rules (more a rest) = count_settled rules rest

pub follows_repeated : (sc : Score) (before later : List Bool) (n : ℕ) → Within (Flagged later) sc.rules → Repeated sc before later n → Follows (λ t. Memᴰ t (set_of later)) sc.rules
follows_repeated sc before later n few h = pass_follows sc.rules later few (ap (pass sc.rules) h.made ∙ count_settled sc.rules h.counted ∙ sym h.made)

module _ (sc : Score) (given : List ℕ) where
  pub closed_flags : (store : List Bool) → Drawn sc given store → Follows (λ t. Memᴰ t (set_of store)) (store_rules sc) → store ≡ flags_of 256 (closure sc given)
  closed_flags store h follows = flags_settled 256 (closure sc given) store h.long (λ i l. (
    λ m. (closure_exact sc given i).1 (h.derived i m),
    λ m. derived_least sc given (λ t. Memᴰ t (set_of store)) follows h.kept i ((closure_exact sc given i).0 m),
  ))

  module _ (store : List Bool) (h : Drawn sc given store) (rules : Follows (λ t. Memᴰ t (set_of store)) sc.rules) where
    pub closed_calm : get_or store 0 false ≡ false → store ≡ flags_of 256 (closure sc given)
    closed_calm none = closed_flags store h (store_follows sc rules (λ t m l. absurd (true_is_false (member_flag store m) none)))

    pub closed_clash : (after : List Bool) → Lawful sc → get_or store 0 false ≡ true → Flooded sc.tokens store after → after ≡ flags_of 256 (closure sc given)
    closed_clash after lawful clash full = closed_flags after
        (record {
          long = full.long;
          kept = λ t m. full.kept t (h.kept t m);
          derived = λ t m. ⊎_elim (λ (l : t < sc.tokens). by_clash (h.derived 0 (flag_member store clash)) l) (λ (k : Memᴰ t (set_of store)). h.derived t k) (full.only t m);
        })
        (store_follows sc (λ r m premises. full.filled r.conclusion (lawful.conclusions_known r m)) (λ t m l. full.filled t l))
