-- Laws of what goes to the ports.
--     ports_between, between_ports      the ports are the tokens from the lowest to the highest
--     output_clash, output_else         nothing in a clash, and otherwise the ports that are in the store
--     Goes                              a token goes to the drives: no clash, and it is such a port
--     output_has, output_from           the output has exactly those that go
--     output_either                     what holds of no tokens and of those ports holds of the output
--     output_none                       nothing of an empty store goes
--     output_agrees, output_same        the output hangs on the ports and on which of them are in the store
use mathlib.Core.Path.{◌≡◌, refl, sym, ap, subst, subst⁻¹}
use mathlib.Core.Bool.{cond}
use mathlib.Core.List.Memᴰ
use mathlib.Core.List.{List, [], Memᴰ}
use Prim.Native.Nat.{ℕ, suc, ◌+◌, ◌-◌, ◌<◌, ◌≤◌}
use borrow.Author.Tests.{eq-eqb, ne_eqb}
use native.Mathlib.Omega.{arith}
use lib.Dec.{eqb}
use Rattle.laws.specs.Sets.{Same, below, keep, has}
use Rattle.laws.proofs.Booleans.{true_is_false, by_test, either}
use Rattle.laws.proofs.Sets.{Within, keep_kept, keep_agrees, keep_none, on_keep, on_map, map_member, has_member, member_has, has_same, below_lt, lt_below}
use Rattle.tcc.specs.Score.{Score}
use Rattle.tcc.specs.Instant.{ports, output}

pub record Goes (sc : Score) (status : ℕ) (store : List ℕ) (t : ℕ) : Type 0 where
  pub no_clash : status ≡ 1 → ⊥
  pub low : sc.lowest_port ≤ t
  pub high : t ≤ sc.highest_port
  pub held : Memᴰ t store

module _ (sc : Score) where
  pub ports_between : Within (λ t. (sc.lowest_port ≤ t) × (t ≤ sc.highest_port)) (ports sc)
  ports_between =
      on_map (λ t. (sc.lowest_port ≤ t) × (t ≤ sc.highest_port)) (λ k. sc.lowest_port + k) (below (suc sc.highest_port - sc.lowest_port))
      (λ k m. let lt : k < suc sc.highest_port - sc.lowest_port = below_lt (suc sc.highest_port - sc.lowest_port) k m in (omega arith, omega arith))

  pub between_ports : {t : ℕ} → sc.lowest_port ≤ t → t ≤ sc.highest_port → Memᴰ t (ports sc)
  between_ports {t} low high =
      let e : sc.lowest_port + (t - sc.lowest_port) ≡ t = omega arith in
      subst (λ u. Memᴰ u (ports sc)) e (map_member (λ k. sc.lowest_port + k) (lt_below (suc sc.highest_port - sc.lowest_port) (omega arith)))

  pub output_clash : (store : List ℕ) → output sc 1 store ≡ []
  unfolding output
  output_clash store = refl

  module _ (status : ℕ) where
    pub output_else : (store : List ℕ) → (status ≡ 1 → ⊥) → output sc status store ≡ keep (λ t. has t store) (ports sc)
    unfolding output
    output_else store no_clash = rw (ne_eqb status 1 no_clash)

    pub output_has : {store : List ℕ} {t : ℕ} → Goes sc status store t → Memᴰ t (output sc status store)
    output_has {store} {t} g =
        subst⁻¹ (Memᴰ t) (output_else store g.no_clash) (keep_kept (λ u. has u store) (between_ports g.low g.high) (member_has g.held))

    pub output_from : (store : List ℕ) → Within (Goes sc status store) (output sc status store)
    unfolding output
    output_from store =
        by_test (Within (Goes sc status store)) (eqb status 1) (λ e t m. absurd (Memᴰ.not-nil m))
        (λ e. on_keep {P = Goes sc status store} (λ t. has t store) (ports sc)
        (λ t m h. record { no_clash = λ d. true_is_false (eq-eqb status 1 d) e; low = (ports_between t m).0; high = (ports_between t m).1; held = has_member t store h }))

    pub output_either : (P : List ℕ → Type 0) (store : List ℕ) → P [] → P (keep (λ t. has t store) (ports sc)) → P (output sc status store)
    unfolding output
    output_either P store = either P (eqb status 1)

    pub output_none : output sc status [] ≡ []
    output_none = output_either (λ l. l ≡ []) [] refl (keep_none (λ t. has t []) (ports sc) (λ t m. refl))

module _ (sc sc' : Score) (low : sc.lowest_port ≡ sc'.lowest_port) (high : sc.highest_port ≡ sc'.highest_port) where
  pub output_agrees : (status : ℕ) (s s' : List ℕ) → Within (λ t. has t s ≡ has t s') (ports sc) → output sc status s ≡ output sc' status s'
  unfolding output
  output_agrees status s s' same = rw (sym low, sym high) (ap (cond (eqb status 1) []) (keep_agrees (λ t. has t s) (λ t. has t s') (ports sc) same))

pub output_same : (sc : Score) (status : ℕ) {s s' : List ℕ} → Same s s' → output sc status s ≡ output sc status s'
output_same sc status {s} {s'} same = output_agrees sc sc refl refl status s s' (λ t m. has_same t same)
