-- Runs from the start state of an accepted score, held against the history.
--     run_writes         what a run writes is the history of the first instants of its list, and the journal beyond is as it was
--     run_count          the list has as many instants as the run wrote
--     run_below          from the start they are not past the last number
use mathlib.Core.Path.{◌≡◌, sym, ap, subst⁻¹, ◌∙◌}
use mathlib.Core.List.{List, ◌++◌}
use Prim.Native.Nat.{ℕ, ◌*◌, ◌≤◌}
use native.Mathlib.Omega.{arith}
use lib.ListN.{length, take, drop}
use lib.Seq.{length-take-le}
use Rattle.tcc.specs.Instant.{start_state}
use Rattle.format.specs.Decode.{decode}
use Rattle.check_verdicts.specs.Verdicts.{verdict_number}
use Rattle.check_score.specs.Check.{verdict}
use Rattle.bits.specs.Bits.{bytes_of}
use Rattle.lent.specs.States.{instant_number, start_bytes, last_number}
use Rattle.lent.proofs.Numbered.{number_round}
use Rattle.journal_instants.specs.Instants.{input_lists}
use Rattle.journal_words.specs.History.{history}
use Rattle.journal_step.proofs.Stands.{Stands}
use Rattle.journal_run_list.proofs.Counts.{run_few}
use Rattle.journal_run_list.proofs.Exact.{run_history}
use Rattle.journal_run_list.proofs.Numbers.{run_number}
use Rattle.journal_run.specs.RunCall.{Lent}
use Rattle.score.specs.ScoreRun.{ScoreRun}
use Rattle.claims_demands.specs.Calls.{written}
use Rattle.claims_demands.specs.JournalExact.{start_history}
use Rattle.claims_demands.proofs.Accepted.{lawful, agents_counted}
use Rattle.claims_demands.proofs.Runs.{Ended, refused, ran, run_ended}
use Rattle.claims_demands.proofs.JournalChecks.{start_stands}

module _ (score inputs : List ℕ) (before after : Lent) (answer : ℕ) (c : ScoreRun score inputs before after answer) where
  pub run_writes : verdict_number (verdict score) ≡ 0 → before.state ≡ start_bytes (decode score) →
      after.journal ≡ bytes_of (start_history score inputs (written answer)) ++ drop (4 * length (start_history score inputs (written answer))) before.journal
  unfolding history bytes_of
  run_writes accepted at = go (run_ended c)
    where
      go : Ended score inputs before after answer → after.journal ≡ bytes_of (start_history score inputs (written answer)) ++ drop (4 * length (start_history score inputs (written answer))) before.journal
      go (refused n e) = rw n (ap (λ x. x.journal) e)
      go (ran f n e) =
          let law = lawful score accepted in
          let stands = subst⁻¹ (λ s. Stands score law (agents_counted score accepted) s (start_state (decode score))) at (start_stands score accepted) in
          let ws = run_history score law (agents_counted score accepted) (input_lists inputs) f.rising before.state (start_state (decode score)) stands (length before.journal) in
          ap (λ x. x.journal) e
          ∙ ap (λ w. bytes_of w ++ drop (4 * length w) before.journal) (ws ∙ ap (start_history score inputs) (sym n))

  pub run_count : length (take (written answer) (input_lists inputs)) ≡ written answer
  run_count = go (run_ended c)
    where
      go : Ended score inputs before after answer → length (take (written answer) (input_lists inputs)) ≡ written answer
      go (refused n e) = rw n
      go (ran f n e) = length-take-le (written answer) (input_lists inputs) (omega (arith, run_few score before.state (length before.journal) (input_lists inputs)))

  pub run_below : before.state ≡ start_bytes (decode score) → written answer ≤ last_number
  run_below at = go (run_ended c)
    where
      zero : instant_number before.state ≡ 0
      zero = ap instant_number at ∙ number_round (start_state (decode score)) 0 (omega arith)

      go : Ended score inputs before after answer → written answer ≤ last_number
      go (refused n e) = omega arith
      go (ran f n e) = let r = run_number score (input_lists inputs) before.state (length before.journal) (omega (arith, zero)) in omega (arith, zero, r.higher, r.few)
