-- The call's replies, one for each way to leave.
--     turned, lengths, state, switched, counts_all
--     from_standing     the numbers from where a score stands are those from the state's bytes
use mathlib.Core.Path.{◌≡◌, refl, ap, ◌∙◌}
use mathlib.Core.Bool.{true, false, not}
use mathlib.Core.List.{List, ◌++◌, map, map-id}
use Prim.Native.Nat.{ℕ}
use lib.Dec.{eqb}
use lib.ListN.{length, replicate}
use Rattle.std.proofs.Common.{Ok, Err}
use Rattle.laws.proofs.Booleans.{cond_true, cond_false}
use Rattle.format.specs.Decode.{sizes, decode}
use Rattle.check_verdicts.specs.declared.Fault.{Fault}
use Rattle.check_verdicts.specs.Verdicts.{verdict_number}
use Rattle.check_score.specs.Check.{verdict}
use Rattle.refusals.proofs.ByVerdict.{passed}
use Rattle.refusals.proofs.ByVerdict as stages
use Rattle.refusals.specs.Refused.{Turned, Lengths, State, Switches}
use Rattle.flags.proofs.Flags.{set_of_none}
use Rattle.lent.specs.Lengths.{state_bytes}
use Rattle.lent.specs.States.{state_fault, state_of}
use Rattle.instant_state.specs.declared.Standing.{Standing}
use Rattle.instant_state.specs.Standing.{state_in, standing_in}
use Rattle.instant_state.proofs.Standings.{standing_state}
use Rattle.settings_tried.specs.declared.Counts.{Counts}
use Rattle.settings_tried.specs.Settings.{settings, counts}
use Rattle.settings_tried.specs.Standing.{state_from}
use Rattle.settings_tried.proofs.Tried.{with}
use Rattle.settings_call.specs.Reply.{Reply}
use Rattle.settings_call.specs.SettingsCall.{press_fault, reply}

module _ (score given switches : List ℕ) (k : ℕ) where
  pub turned : {f : Fault} → Err f ≡ verdict score → Turned f ≡ reply score given switches k
  unfolding reply
  turned is = stages.turned Turned _ (verdict score) is

  module _ (accepted : verdict_number (verdict score) ≡ 0) where
    pub lengths : not (eqb (length given) state_bytes) ≡ true → Lengths ≡ reply score given switches k
    unfolding reply
    lengths e = passed Turned (verdict score) accepted (cond_true _ e refl)

    module _ (long : not (eqb (length given) state_bytes) ≡ false) where
      pub state : state_fault (sizes score).agents given ≡ true → State ≡ reply score given switches k
      unfolding reply
      state e = passed Turned (verdict score) accepted (cond_false _ long (cond_true _ e refl))

      module _ (lawful : state_fault (sizes score).agents given ≡ false) where
        pub switched : press_fault (sizes score).tokens switches k ≡ true → Switches ≡ reply score given switches k
        unfolding reply
        switched e = passed Turned (verdict score) accepted (cond_false _ long (cond_false _ lawful (cond_true _ e refl)))

        pub counts_all : press_fault (sizes score).tokens switches k ≡ false → (c : Counts) → c ≡ counts (decode score) (state_of given) (settings k switches) → ◌≡◌ {A = Reply} (Ok c) (reply score given switches k)
        unfolding reply
        counts_all e c is = passed Turned (verdict score) accepted (cond_false _ long (cond_false _ lawful (cond_false _ e (ap Ok is))))

  -- with nothing chosen yet
  pub from_standing : (s : Standing) → s ≡ standing_in given → counts (decode score) (state_from s.running s.awake) (map (with (replicate 256 false)) (settings k switches)) ≡ counts (decode score) (state_of given) (settings k switches)
  unfolding state_in
  from_standing s is =
      ap (λ st. counts (decode score) st (map (with (replicate 256 false)) (settings k switches))) (ap state_in is ∙ standing_state given)
      ∙ ap (λ l. counts (decode score) (state_of given) (map (λ t. l ++ t) (settings k switches))) (set_of_none 256)
      ∙ ap (counts (decode score) (state_of given)) (map-id (settings k switches))
