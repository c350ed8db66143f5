-- `check_calls::row_of`: one flag more; past the last bit of the set no flag is up.
use Rattle.std.proofs.Common.{◌≡◌, ◌/◌, ◌%◌, eqb, false, refl, sym, ap, ◌∙◌, arith, get_or-set_other, length-set}
use Rattle.std.proofs.lemmas.List.{get_or-replicate, set-get_or}
use Rattle.std.proofs.Math.Nat.{div-one}
use native.Mathlib.Decide.{dec_lt}
use lib.Pow.{shr-shr}
use Rattle.laws.proofs.Lists.{filled_more}
use Rattle.check_calls.specs.Calls.{in_set}
use Rattle.check_calls.proofs.ProcedureSets.{in_set_past}
use Rattle.check_calls.proofs.row_of.Goals as goal

pub loop-mark-init : goal.loop-mark-init
loop-mark-init c =
    record {
      long = refl;
      rest = sym (div-one c.args.set);
      done = λ j h. absurd (omega arith);
      left = λ j h lt. get_or-replicate 64 j false false lt;
    }

pub loop-mark-preserved : goal.loop-mark-preserved
unfolding in_set
loop-mark-preserved c =
    let x = c.args.set in
    let items = c.loop-mark.mark-items in
    let q = c.loop-mark.mark-index in
    let h = c.loop-mark.invariant in
    record {
      long = length-set items q _ ∙ h.long;
      rest = ap (λ n. n / 2) h.rest ∙ shr-shr x q 1;
      done = filled_more (λ j v. v ≡ in_set x j) items q _ false (omega arith) h.done (ap (λ n. eqb (n % 2) 1) h.rest);
      left = λ j le lt. get_or-set_other items q j _ false (λ e. omega arith) ∙ h.left j (omega arith) lt;
    }

pub returns-then-rest-eq0 : goal.returns-then-rest-eq0
returns-then-rest-eq0 c =
    let q = c.loop-mark.mark-index in
    let h = c.loop-mark.invariant in
    simp set-get_or
    (λ j lt.
    elim (dec_lt j q) [
      | yes below ↦ h.done j below
      | no above ↦ h.left j (omega arith) lt ∙ sym (in_set_past c.args.set q j (sym h.rest ∙ c.if-rest-eq0.true) (omega arith))
    ])
