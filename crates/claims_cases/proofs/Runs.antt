-- The run call from a state written as bytes, by the instants of the state itself.
--     play_on      a run from a state and its number, below the last: an instant is not written where its words exceed the journal bytes left
--     run_plays    of an accepted score, from a lawful state, on rising inputs, a run over bytes is that one
--     exit_plays   so is the run call, on a list of good form
use mathlib.Core.Path.{◌≡◌, refl, sym, subst, ◌∙◌}
use mathlib.Core.Bool.{false, cond}
use mathlib.Core.List.Memᴰ
use mathlib.Core.List.{List, [], ◌∷◌}
use Prim.Native.Nat.{ℕ, suc, ◌+◌, ◌*◌, ◌-◌, ◌≤◌}
use native.Mathlib.Omega.{arith}
use borrow.Author.Tests.{ne_eqb}
use lib.Dec.{leb}
use lib.ListN.{length}
use Rattle.laws.proofs.Sets.{Within}
use Rattle.tcc.specs.Score.{Score}
use Rattle.tcc.specs.Lawful.{Lawful}
use Rattle.tcc.specs.Instant.{State, answer, after}
use Rattle.format.specs.Decode.{sizes, decode}
use Rattle.format.proofs.Decode.{decode_tokens, sizes_few, playable_agents}
use Rattle.check_verdicts.specs.Verdicts.{verdict_number}
use Rattle.check_verdicts.proofs.Verdicts.{accepted_only}
use Rattle.check_score.specs.Check.{verdict}
use Rattle.check_score.proofs.Stages.{playable}
use Rattle.lent.specs.Lengths.{scratch_bytes}
use Rattle.lent.specs.States.{numbered, last_number, LawfulState}
use Rattle.lent.proofs.Round.{lawful_bytes}
use Rattle.lent.proofs.Numbered.{numbered_length, numbered_same, numbered_fault, number_round}
use Rattle.journal_form.specs.Form.{Good, form_of}
use Rattle.journal_instants.specs.Instants.{input_lists}
use Rattle.journal_words.specs.History.{entry, RisingBelow}
use Rattle.journal_words.proofs.Forms.{good_inputs}
use Rattle.journal_step.specs.AnswerIn.{answer_in}
use Rattle.journal_step.proofs.Stands.{written_stands, instant_entry, after_state, next_lawful, instant_lawful}
use Rattle.journal_run_list.specs.Run.{Not, Room, stop_at, Ran, stopped, unless_stopped, run_from}
use Rattle.journal_run.specs.RunCall.{lent, ended, exit}

unfoldable pub play_on : Score → State → ℕ → ℕ → List (List ℕ) → Ran
play_on sc st n _ [] = stopped (numbered st n) Not
play_on sc st n room (inputs ∷ more) =
    unless_stopped (cond (leb (4 * length (entry sc inputs (answer sc st inputs))) room) Not Room) (numbered st n)
    (entry sc inputs (answer sc st inputs))
    (play_on sc (after (answer sc st inputs)) (suc n) (room - 4 * length (entry sc inputs (answer sc st inputs))) more)

module _ (score : List ℕ) (accepted : verdict_number (verdict score) ≡ 0) where
  law : Lawful (decode score)
  law = (playable score accepted).lawful

  counted : length (decode score).agents ≡ (sizes score).agents
  counted = playable_agents score (playable score accepted)

  pub run_plays : (lists : List (List ℕ)) → Within (RisingBelow (decode score).tokens) lists → (st : State) → LawfulState (length (decode score).agents) st → (n room : ℕ) → n + length lists ≤ last_number →
      run_from score (numbered st n) room lists ≡ play_on (decode score) st n room lists
  unfolding run_from stop_at play_on
  run_plays [] rising st lawful n room few = refl
  run_plays (inputs ∷ more) rising st lawful n room few =
      let h = rising inputs (Memᴰ.head refl) in
      let b = answer (decode score) st inputs in
      let s = written_stands score law counted st n lawful in
      let rest = run_plays more (λ l m. rising l (Memᴰ.tail m)) (after b) (next_lawful score law counted s inputs h) (suc n) (room - 4 * length (entry (decode score) inputs b)) (omega arith) in
      rw (
        instant_lawful score law counted s inputs h,
        number_round st n (omega arith),
        ne_eqb n last_number (λ e. omega arith),
        instant_entry score law counted s inputs,
        numbered_same (after (answer_in score (numbered st n) inputs)) (after b) (suc n) (after_state score law counted s inputs),
        rest,
      )

  pub exit_plays : (inputs journal scratch : List ℕ) (st : State) → LawfulState (sizes score).agents st → length scratch ≡ scratch_bytes → form_of false (sizes score).tokens inputs ≡ Good → length (input_lists inputs) ≤ last_number →
      exit score inputs (lent (numbered st 0) journal scratch) ≡ ended (lent (numbered st 0) journal scratch) (play_on (decode score) st 0 (length journal) (input_lists inputs))
  unfolding exit
  exit_plays inputs journal scratch st lawful long good few =
      let rising : Within (RisingBelow (decode score).tokens) (input_lists inputs) = λ l m. subst (λ t. RisingBelow t l) (sym (decode_tokens score)) (good_inputs false (sizes score).tokens inputs good l m) in
      rw (
        accepted_only (verdict score) accepted,
        numbered_length st 0,
        long,
        numbered_fault st 0 (sizes score).agents ∙ lawful_bytes (sizes score).agents (sizes_few score).1 st lawful,
        good,
        run_plays (input_lists inputs) rising st (subst (λ n. LawfulState n st) (sym counted) lawful) 0 (length journal) (omega arith),
      )
