-- The store of an answer that is not aborted.
--     Unaborted         it has with some tokens all that follows from them, and token 0 settles the status
--     unaborted         every such answer is so
--     all_stored        at status 1 it has all T tokens
use mathlib.Core.Path.{◌≡◌, refl}
use mathlib.Core.Bool.{Bool, true, false}
use mathlib.Core.List.Memᴰ
use mathlib.Core.List.{List, [], ◌∷◌, Memᴰ}
use Prim.Native.Nat.{ℕ, ◌<◌}
use native.Mathlib.Omega.{arith}
use Rattle.laws.specs.Sets.{has}
use Rattle.laws.proofs.Booleans.{true_is_false}
use Rattle.laws.proofs.Sets.{Among, on_cons, has_member, member_has}
use Rattle.tcc.specs.Score.{Score}
use Rattle.tcc.specs.Store.{told, by_clash, closure}
use Rattle.tcc.specs.Instant.{Answer, State, running, aborted, answer}
use Rattle.tcc.specs.FixedPoint.{Marked}
use Rattle.tcc.proofs.Store.{store_follows, derived_least, closure_exact}
use Rattle.tcc.proofs.SameAnswer.{store, marks_closed, unaborted_settled}

pub record Unaborted (sc : Score) (a : Answer) : Type 0 where
  pub follows : (given : List ℕ) → Among given a.store → Among (closure sc given) a.store
  pub clash : Memᴰ 0 a.store → a.status ≡ 1
  pub no_clash : (Memᴰ 0 a.store → ⊥) → a.status ≡ 0

pub unaborted : (sc : Score) (st : State) (inputs : List ℕ) → ((answer sc st inputs).status ≡ 2 → ⊥) → Unaborted sc (answer sc st inputs)
unfolding answer
unaborted sc (running agents) inputs n =
    let s = unaborted_settled sc agents inputs n in
    let c = marks_closed sc agents inputs in
    record {
      follows = λ given among t m. (s.same_store t).0
          (derived_least sc given (Marked (store sc agents inputs)) (store_follows sc c.rules c.clash) (λ u k. (s.same_store u).1 (among u k)) t ((closure_exact sc given t).0 m));
      clash = λ m. s.clash ((s.same_store 0).1 m);
      no_clash = λ n. s.no_clash (λ m. n ((s.same_store 0).0 m));
    }
unaborted sc aborted inputs n = absurd (n refl)

pub all_stored : {sc : Score} {a : Answer} → Unaborted sc a → a.status ≡ 1 → (t : ℕ) → t < sc.tokens → Memᴰ t a.store
all_stored {sc} {a} u e t lt = u.follows (0 ∷ []) (on_cons (zero (has 0 a.store) refl) (λ x m. absurd (Memᴰ.not-nil m))) t ((closure_exact sc (0 ∷ []) t).1 (by_clash (told (Memᴰ.head refl)) lt))
  where
    zero : (b : Bool) → has 0 a.store ≡ b → Memᴰ 0 a.store
    zero true h = has_member 0 a.store h
    zero false h = absurd (let z = u.no_clash (λ m. true_is_false (member_has m) h) in omega arith)
