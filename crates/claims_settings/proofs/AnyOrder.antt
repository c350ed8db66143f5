-- The order of the switches changes no answer.
--     reply_same      nor a reply
--     any_order       the theorem
use mathlib.Core.Path.{◌≡◌, sym, ap, ap₂, ◌∙◌}
use mathlib.Core.Bool.{Bool, cond, not, ◌||◌}
use mathlib.Core.List.{List}
use Prim.Native.Nat.{ℕ, suc}
use lib.Dec.{eqb, leb}
use lib.ListN.{length}
use Rattle.format.specs.Decode.{sizes, decode}
use Rattle.check_verdicts.specs.Verdicts.{by_verdict}
use Rattle.check_score.specs.Check.{verdict}
use Rattle.lent.specs.Lengths.{state_bytes}
use Rattle.lent.specs.States.{state_fault, state_of}
use Rattle.settings_tried.specs.declared.Counts.{Counts}
use Rattle.settings_tried.specs.AnyOrder.{Reordered}
use Rattle.settings_tried.proofs.AnyOrder as settings
use Rattle.settings_call.specs.Reply.{Reply}
use Rattle.refusals.specs.Refused.{Turned, Lengths, State, Switches}
use Rattle.std.proofs.Common.{Ok}
use Rattle.settings_call.specs.SettingsCall.{press_fault, reply}
use Rattle.score_answer.specs.Answer.{packed}
use Rattle.score_answer.specs.Replies.{of_settings}
use Rattle.claims_settings.specs.AnyOrder.{AnyOrder}

module _ (score state switches others : List ℕ) (k : ℕ) (h : Reordered switches others) where
  fault_same : press_fault (sizes score).tokens switches k ≡ press_fault (sizes score).tokens others k
  fault_same = ap₂ ◌||◌ (settings.reordered_fault switches others h (sizes score).tokens) (ap (λ n. leb (suc n) k) (settings.reordered_long switches others h))

  reply_same : reply score state switches k ≡ reply score state others k
  unfolding reply
  reply_same =
      ap₂ (λ (fault : Bool) (c : Counts).
      by_verdict {E = Reply} (verdict score) Turned
      (cond (not (eqb (length state) state_bytes)) Lengths
      (cond (state_fault (sizes score).agents state) State
      (cond fault Switches (Ok c)))))
      fault_same (settings.any_order (decode score) (state_of state) k switches others h)

pub any_order : AnyOrder
any_order score state switches others k a b h p q = p.answered ∙ ap (λ (r : Reply). packed (of_settings r)) (reply_same score state switches others k h) ∙ sym q.answered
