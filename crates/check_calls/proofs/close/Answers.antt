-- `check_calls::close`: the rows are closed through one procedure more.
use Rattle.std.proofs.Common.{◌≡◌, subst, ◌∙◌, arith}
use Rattle.check_calls.proofs.Rows.{Upto, upto_none, upto_more, upto_closed}
use Rattle.check_calls.proofs.close.Goals as goal

pub loop-k-init : goal.loop-k-init
loop-k-init c = record { long = c.requires.rows_len; upto = upto_none c.args.procedures c.args.rows.now }

pub loop-k-preserved : goal.loop-k-preserved
loop-k-preserved c =
    let h = c.loop-k.invariant in
    record {
      long = c.close_through.ensures.long ∙ h.long;
      upto =
          upto_more c.args.procedures c.loop-k.k c.args.rows.now c.loop-k.rows _ (omega arith) (omega arith) h.upto
          c.close_through.ensures;
    }

pub returns : goal.returns
returns c =
    let n = c.args.procedures in
    let h = c.loop-k.invariant in
    let e : c.loop-k.k ≡ n = omega arith in
    upto_closed n c.args.rows.now c.loop-k.rows (omega arith)
    (subst (λ k. Upto n k c.args.rows.now c.loop-k.rows) e h.upto)
    (omega arith)
