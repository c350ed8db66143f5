-- Journal checks from states that differ in their numbers alone, where the last number is not reached.
--     check_aside      they reply the same
use mathlib.Core.Path.{◌≡◌, refl, ap}
use mathlib.Core.Bool.{cond}
use mathlib.Core.List.{List, [], ◌∷◌}
use Prim.Native.Nat.{ℕ, suc, ◌+◌, ◌≤◌}
use borrow.Author.Tests.{ne_eqb}
use native.Mathlib.Omega.{arith}
use lib.ListN.{length}
use Rattle.tcc.specs.Instant.{after}
use Rattle.format.specs.Decode.{sizes, decode}
use Rattle.lent.specs.States.{state_fault, as_bytes, instant_number, next_bytes, last_number, SameButNumber}
use Rattle.lent.proofs.Numbered.{state_aside, numbered_alike, next_number}
use Rattle.journal_instants.specs.Instants.{inputs_in}
use Rattle.journal_words.specs.History.{entry}
use Rattle.refusals.specs.Refused.{Next as Unlawful, Differs}
use Rattle.journal_step.specs.AnswerIn.{answer_in}
use Rattle.journal_check.specs.Check.{same, check_from}

module _ (score : List ℕ) where
  pub check_aside : (instants : List (List ℕ)) (s t : List ℕ) → SameButNumber s t → (read : ℕ) → instant_number s + length instants ≤ last_number → instant_number t + length instants ≤ last_number →
      check_from score s read instants ≡ check_from score t read instants
  unfolding check_from answer_in
  check_aside [] s t alike read few few' = refl
  check_aside (ws ∷ more) s t alike read few few' =
      let a = answer_in score s (inputs_in ws) in
      let rest = check_aside more (next_bytes s a) (next_bytes t a) (numbered_alike (after a) (suc (instant_number s)) (suc (instant_number t))) (suc read)
      (omega (arith, next_number s a (omega arith))) (omega (arith, next_number t a (omega arith))) in
      rw (← state_aside s t alike.words, ne_eqb (instant_number s) last_number (λ e. omega arith), ne_eqb (instant_number t) last_number (λ e. omega arith))
      (ap (λ r. cond (state_fault (sizes score).agents (as_bytes (after a))) Unlawful (cond (same ws (entry (decode score) (inputs_in ws) a)) r (Differs read))) rest)
