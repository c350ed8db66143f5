-- The closed store as flags.
--     closed_shut        it is closed
--     closed_above       it holds what it was given
--     closed_reached     and nothing else than the instant's, if what it was given is
use mathlib.Core.List.{List, Memᴰ}
use Prim.Native.Nat.{ℕ, ◌<◌}
use native.Mathlib.Omega.{arith}
use Rattle.tcc.specs.Score.{Score}
use Rattle.tcc.specs.Lawful.{Lawful}
use Rattle.tcc.specs.Store.{store_rules, closure}
use Rattle.tcc.specs.Instant.{held, reached}
use Rattle.tcc.proofs.Closure.{Follows}
use Rattle.tcc.proofs.Store.{follows_rules, follows_clash, store_follows, closes_above, closes_follows, closes_least, closure_exact}
use Rattle.tcc.proofs.FixedPoint.{reach}
use Rattle.flags.specs.Flags.{set_of, flags_of}
use Rattle.flags.proofs.Flags.{flags_of_member, member_flags_of}
use Rattle.instant_engine.specs.Marks.{Shut}

module _ (sc : Score) (lawful : Lawful sc) (given : List ℕ) where
  follows : Follows (λ t. Memᴰ t (closure sc given)) (store_rules sc)
  follows = closes_follows sc given (closure sc given) (closure_exact sc given)

  pub closed_shut : Shut sc (set_of (flags_of 256 (closure sc given)))
  closed_shut = record {
    rules = λ r m h. member_flags_of 256 (closure sc given) (omega (arith, lawful.conclusions_known r m, lawful.tokens_at_most)) (follows_rules sc follows r m (λ p k. flags_of_member 256 (closure sc given) (h p k)));
    clash = λ t z lt. member_flags_of 256 (closure sc given) (omega (arith, lawful.tokens_at_most)) (follows_clash sc follows t (flags_of_member 256 (closure sc given) z) lt);
  }

  pub closed_above : (t : ℕ) → t < 256 → Memᴰ t given → Memᴰ t (set_of (flags_of 256 (closure sc given)))
  closed_above t lt m = member_flags_of 256 (closure sc given) lt (closes_above sc given (closure sc given) (closure_exact sc given) t m)

  pub closed_reached : (agents inputs : List ℕ) → ((t : ℕ) → Memᴰ t given → Memᴰ (held t) (reached sc agents inputs)) →
      (t : ℕ) → Memᴰ t (set_of (flags_of 256 (closure sc given))) → Memᴰ (held t) (reached sc agents inputs)
  closed_reached agents inputs start t m =
      closes_least sc given (λ u. Memᴰ (held u) (reached sc agents inputs)) (closure sc given) (closure_exact sc given)
      (store_follows sc (reach sc agents inputs).rules (reach sc agents inputs).clash) start t (flags_of_member 256 (closure sc given) m)
