-- `check_circles::gather`: one agent more, read off the sets of the agents below it.
use Rattle.std.proofs.Common.{ℕ, ◌<◌, arith}
use Rattle.laws.proofs.Lists.{filled_more}
use Rattle.tcc.specs.Unguarded.{Leads}
use Rattle.format.specs.Decode.{decode}
use Rattle.format.proofs.Decode.{sizes_few}
use Rattle.check_faults.proofs.Accepted.{parts_lower, procedures_known}
use Rattle.check_calls.specs.Calls.{Exactly, in_set}
use Rattle.check_calls.proofs.Leads.{leads_exact}
use Rattle.check_circles.proofs.gather.Goals as goal

pub leads_to-requires-clause-by_index : goal.leads_to-requires-clause-by_index
leads_to-requires-clause-by_index c = λ b m.
    let lower = parts_lower c.args.s.now c.requires.faultless c.loop-i.i b (rw c.agent_at.ensures at m) in
    omega arith

pub leads_to-requires-clause-by_index_2 : goal.leads_to-requires-clause-by_index_2
leads_to-requires-clause-by_index_2 c = λ p m.
    let s = c.args.s.now in
    let known = procedures_known s c.requires.faultless c.loop-i.i p (rw c.agent_at.ensures at m) in
    omega (arith, sizes_few s)

pub loop-i-preserved : goal.loop-i-preserved
loop-i-preserved c =
    let s = c.args.s.now in
    let sets = c.loop-i.sets in
    let i = c.loop-i.i in
    let h = c.loop-i.invariant.exact in
    record {
      exact = λ j q lt le.
          filled_more (λ j v. (q : ℕ) → q < 64 → Exactly (in_set v q) (Leads (decode s) j q)) sets i _ 0
          (omega arith)
          (λ j lt q le. h j q lt le)
          (λ q le.
          rw (c.leads_to.ensures q le, c.agent_at.ensures)
          (leads_exact (decode s) i q sets (λ b m. h b q (parts_lower s c.requires.faultless i b m) le)))
          j lt q le;
    }
