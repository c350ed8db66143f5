-- `check_calls::close_through`: the step is done for one row more; the rows past the slice stand as they were.
use Rattle.std.proofs.Common.{◌≡◌, false, ◌||◌, [], get_or, length, take, sym, ap, ◌∙◌, subst, arith}
use Rattle.std.proofs.lemmas.List.{get_or-take, set-get_or, length-take-le}
use Rattle.check_calls.specs.Calls.{called}
use Rattle.check_calls.proofs.Rows.{Half, half_none, half_kept, half_joined, half_all}
use Rattle.check_calls.proofs.close_through.Goals as goal
use Rattle.check_calls.proofs.close_through.Goals.{then-row-k, else-row-k}

pub loop-row-init : goal.loop-row-init
loop-row-init c = half_none c.args.k (take c.args.procedures c.args.rows.now)

pub loop-row-preserved : goal.loop-row-preserved
loop-row-preserved c =
    let rows = c.args.rows.now in
    let front = take c.args.procedures rows in
    let items = c.loop-row.row-items in
    let p = c.loop-row.row-index in
    let h = c.loop-row.invariant in
    elim c.if-row-k.branch [
      | then-row-k w ↦
          rw w.row-items-is
          (half_joined c.args.k p front items h w.if-row-k.true (omega arith) w.joined.result
          (λ q lt.
          w.joined.ensures q lt
          ∙ ap (λ row. called items p q || get_or row q false)
          (sym (get_or-take c.args.procedures rows c.args.k [] c.requires.k_lt_procedures))))
      | else-row-k w ↦ rw w.row-items-is (simp set-get_or (half_kept c.args.k p front items h w.if-row-k.false))
    ]

pub returns : goal.returns
returns c =
    let rows = c.args.rows.now in
    let n = c.args.procedures in
    let long : length (take n rows) ≡ n = length-take-le n rows (omega arith) in
    let e : c.loop-row.row-index ≡ n = omega arith in
    half_all n c.args.k rows c.loop-row.row-items c.requires.k_lt_procedures (omega arith) (omega arith)
    (subst (λ p. Half c.args.k p (take n rows) c.loop-row.row-items) e c.loop-row.invariant)
