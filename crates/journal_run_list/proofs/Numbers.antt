-- The instant number along a run.
--     Reaches        the state after a run has a number higher by the instants written, and not past the last; a run is
--                    stopped by 18 only there, and by 15 only before it
--     run_number     so it is
use mathlib.Core.Path.{◌≡◌, refl}
use mathlib.Core.Bool.{true, false}
use mathlib.Core.List.{List, [], ◌∷◌}
use Prim.Native.Nat.{ℕ, ◌+◌, ◌*◌, ◌-◌, ◌<◌, ◌≤◌}
use borrow.Author.Tests.{eqb-true, eqb-false}
use native.Mathlib.Omega.{arith}
use lib.ListN.{length}
use Rattle.tcc.specs.Instant.{Answer}
use Rattle.format.specs.Decode.{decode}
use Rattle.lent.specs.States.{instant_number, next_bytes, last_number, at_last}
use Rattle.lent.proofs.Numbered.{next_number}
use Rattle.journal_words.specs.History.{entry}
use Rattle.journal_step.specs.AnswerIn.{answer_in}
use Rattle.journal_run_list.specs.Run.{MayStop, Not, Next, Last, Room, stop_at, Ran, unless_stopped, run_from}
use Rattle.journal_run_list.proofs.Took.{not_last, only_last, not_full}

pub record Reaches (n : ℕ) (r : Ran) : Type 0 where
  pub higher : instant_number r.state ≡ n + r.instants
  pub few : instant_number r.state ≤ last_number
  pub at_last_lem : r.stop ≡ Last → instant_number r.state ≡ last_number
  pub before_last : r.stop ≡ Room → instant_number r.state < last_number

module _ (score : List ℕ) where
  pub run_number : (lists : List (List ℕ)) (state : List ℕ) (room : ℕ) → instant_number state ≤ last_number → Reaches (instant_number state) (run_from score state room lists)
  unfolding run_from
  run_number [] state room few = record { higher = omega arith; few = few; at_last_lem = λ e. absurd (let n : ◌≡◌ {A = ℕ} 0 1 = cc in omega arith); before_last = λ e. absurd (let n : ◌≡◌ {A = ℕ} 0 1 = cc in omega arith) }
  run_number (inputs ∷ more) state room few =
      go (stop_at score (at_last state) a (4 * length words) room)
      (not_last score (at_last state) a (4 * length words) room) (only_last score (at_last state) a (4 * length words) room) (not_full score (at_last state) a (4 * length words) room)
      (run_from score (next_bytes state a) (room - 4 * length words) more) (run_number more (next_bytes state a) (room - 4 * length words))
    where
      a : Answer
      a = answer_in score state inputs

      words : List ℕ
      words = entry (decode score) inputs a

      below : at_last state ≡ false → instant_number state < last_number
      below e = let ne : instant_number state ≡ last_number → ⊥ = eqb-false (instant_number state) last_number e in omega arith

      go : (stop : MayStop) → (stop ≡ Not → at_last state ≡ false) → (stop ≡ Last → at_last state ≡ true) → (stop ≡ Room → at_last state ≡ false) →
          (r : Ran) → (instant_number (next_bytes state a) ≤ last_number → Reaches (instant_number (next_bytes state a)) r) → Reaches (instant_number state) (unless_stopped stop state words r)
      go Not written last full r rest =
          let next = next_number state a (below (written refl)) in
          let x = rest (omega (arith, below (written refl))) in
          record { higher = omega (arith, x.higher); few = x.few; at_last_lem = x.at_last_lem; before_last = x.before_last }
      go Next written last full r rest = record { higher = omega arith; few = few; at_last_lem = λ e. absurd (let n : ◌≡◌ {A = ℕ} 0 1 = cc in omega arith); before_last = λ e. absurd (let n : ◌≡◌ {A = ℕ} 0 1 = cc in omega arith) }
      go Last written last full r rest = record { higher = omega arith; few = few; at_last_lem = λ e. eqb-true (instant_number state) last_number (last refl); before_last = λ e. absurd (let n : ◌≡◌ {A = ℕ} 0 1 = cc in omega arith) }
      go Room written last full r rest = record { higher = omega arith; few = few; at_last_lem = λ e. absurd (let n : ◌≡◌ {A = ℕ} 0 1 = cc in omega arith); before_last = λ e. below (full refl) }
