-- Clashes or aborts.
--     clash_above, alive      what any inputs bring to life is alive in a clash
--     clash_unaborted  so none of them aborts
--     clash_answered   in any state
--     never_both       the theorem
use mathlib.Core.Path.{◌≡◌, ap}
use mathlib.Core.List.{List, Memᴰ}
use Prim.Native.Nat.{ℕ, ◌<◌}
use native.Mathlib.Omega.{arith}
use Rattle.laws.proofs.Sets.{same_refl}
use Rattle.tcc.specs.Score.{Score}
use Rattle.tcc.specs.Instant.{State, running, aborted, answer, instant, live}
use Rattle.tcc.specs.FixedPoint.{Marked, Closed}
use Rattle.tcc.proofs.FixedPoint.{reached_least}
use Rattle.tcc.proofs.SameAnswer.{lives, store, marks_closed, marks_sound, abort_cases, own_aborting, own_settling, unaborted_settled}
use Rattle.tcc.proofs.Unaborted.{Unaborted, unaborted, all_stored}
use Rattle.format.specs.Decode.{decode}
use Rattle.lent.specs.States.{state_of}
use Rattle.settings_tried.specs.Settings.{settings}
use Rattle.settings_tried.proofs.AllSettings.{all_settings}
use Rattle.settings_call.proofs.Outcomes.{distinct, known}
use Rattle.claims_settings.specs.NeverBoth.{NeverBoth}
use Rattle.claims_settings.proofs.Counts.{found, counted_accepted}
use Rattle.claims_settings.proofs.Tried.{some_ending}

module _ (sc : Score) (agents inputs : List ℕ) (clash : (instant sc agents inputs).status ≡ 1) (others : List ℕ) (few : (t : ℕ) → Memᴰ t others → t < sc.tokens) where
  clashes : (instant sc agents inputs).status ≡ 2 → ⊥
  clashes two = omega (arith, clash, two)

  stored : Unaborted sc (instant sc agents inputs)
  unfolding answer
  stored = unaborted sc (running agents) inputs clashes

  clash_above : Closed sc agents others (Marked (lives sc agents inputs)) (Marked (store sc agents inputs))
  clash_above =
      let c = marks_closed sc agents inputs in
      let s = unaborted_settled sc agents inputs clashes in
      record {
        begins = c.begins;
        told = λ t m. (s.same_store t).1 (all_stored stored clash t (few t m));
        tells = c.tells;
        splits = c.splits;
        calls = c.calls;
        awaits = c.awaits;
        rules = c.rules;
        clash = c.clash;
      }

  alive : (i : ℕ) → Memᴰ i (lives sc agents others) → Memᴰ i (lives sc agents inputs)
  alive i m = reached_least sc agents others (Marked (lives sc agents inputs)) (Marked (store sc agents inputs)) clash_above (live i) ((marks_sound sc agents others (same_refl agents) (same_refl others)).lives i m)

  clash_unaborted : (instant sc agents others).status ≡ 2 → ⊥
  clash_unaborted two = abort_cases sc agents others
      (λ i m a. clashes (ap (λ x. x.status) (own_aborting sc agents inputs i (alive i m) a)))
      (λ none. (own_settling sc agents others none).unaborted two)

clash_answered : (sc : Score) (st : State) (inputs others : List ℕ) → ((t : ℕ) → Memᴰ t others → t < sc.tokens) → (answer sc st inputs).status ≡ 1 → (answer sc st others).status ≡ 2 → ⊥
unfolding answer
clash_answered sc (running agents) inputs others few clash two = clash_unaborted sc agents inputs clash others few two
clash_answered sc aborted inputs others few clash two = omega (arith, clash)

pub never_both : NeverBoth
never_both score state switches others k j a b p q clash abort =
    let f = found p (counted_accepted p 1 clash) in
    let g = found q (counted_accepted q 2 abort) in
    let (set, m, e) = some_ending (decode score) (state_of state) 1 (settings k switches) (omega (arith, f.counts 1 (omega arith))) in
    let (other, n, h) = some_ending (decode score) (state_of state) 2 (settings j others) (omega (arith, g.counts 2 (omega arith))) in
    let chosen = ((all_settings j others (distinct g.accepts)).0 other n).chosen in
    clash_answered (decode score) (state_of state) set other (λ t i. known g.accepts t (chosen t i)) e h
