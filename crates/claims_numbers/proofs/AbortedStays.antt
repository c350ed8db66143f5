-- Of an aborted state only the number changes.
--     written          instants in a row from an aborted state that was written leave one that is written
--     stays            so, from any, they change its number alone
--     aborted_stays    the theorem
use mathlib.Core.Path.{◌≡◌, refl, sym, ap, subst⁻¹, ◌∙◌}
use mathlib.Core.List.{List}
use Prim.Native.Nat.{ℕ, suc}
use lib.ListN.{length}
use Rattle.tcc.specs.Instant.{aborted}
use Rattle.format.specs.Decode.{sizes}
use Rattle.lent.specs.States.{state_fault, state_of, instant_number, numbered, LawfulState, SameButNumber}
use Rattle.lent.proofs.Numbered.{numbered_round}
use Rattle.lent.proofs.SameState.{state_aborted}
use Rattle.score.specs.Slice.{Slice}
use Rattle.claims_demands.specs.Calls.{Answered}
use Rattle.claims_demands.proofs.Linked.{Linked, none, then}
use Rattle.claims_demands.proofs.Ends.{from_aborted}
use Rattle.claims_demands.proofs.Calls.{linked, calls_answer}
use Rattle.claims_numbers.specs.AbortedStays.{AbortedStays}
use Rattle.claims_numbers.proofs.Words.{aborted_words}

written_aborted : (n : ℕ) → state_of (numbered aborted n) ≡ aborted
unfolding LawfulState
written_aborted n = state_aborted (state_of (numbered aborted n)) (numbered_round aborted n tt)

module _ {score : List ℕ} where
  written : {s last : List ℕ} {l : List Answered} → Linked score s l last → (n : ℕ) → s ≡ numbered aborted n → (m : ℕ) × (last ≡ numbered aborted m)
  written none n e = (n, e)
  written (then {p = p} at is x) n e = written x (suc (instant_number p.before)) (from_aborted is (ap state_of (at ∙ e) ∙ written_aborted n)).after_is

  stays : {s last : List ℕ} {l : List Answered} → Slice s → state_of s ≡ aborted → Linked score s l last → SameButNumber s last
  stays lent e none = record { long = refl; words = λ i h. refl }
  stays {s = s} lent e (then {p = p} at is x) =
      let q = written x (suc (instant_number p.before)) (from_aborted is (ap state_of at ∙ e)).after_is in
      subst⁻¹ (SameButNumber s) q.1 (aborted_words s lent (sym (ap length at) ∙ is.long) (sizes score).agents (sym (ap (state_fault (sizes score).agents) at) ∙ is.faultless) e q.0)

pub aborted_stays : AbortedStays
aborted_stays score first last calls lent e turn = let a = calls_answer turn in stays lent e (linked turn a.1)
