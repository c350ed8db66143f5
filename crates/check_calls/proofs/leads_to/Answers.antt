-- `check_calls::leads_to`: by the agent.
use Rattle.std.proofs.Common.{refl, arith}
use mathlib.Core.List.{Memᴰ}
use Rattle.check_calls.proofs.ProcedureSets.{in_set_none, in_set_or, in_set_one}
use Rattle.check_calls.proofs.leads_to.Goals as goal

pub bounds-sets-first : goal.bounds-sets-first
bounds-sets-first c = c.requires.by_index _ (rw c.in-Parallel.is (Memᴰ.head refl))

pub bounds-sets-second : goal.bounds-sets-second
bounds-sets-second c = c.requires.by_index _ (rw c.in-Parallel.is (Memᴰ.tail (Memᴰ.head refl)))

pub bounds-sets-body : goal.bounds-sets-body
bounds-sets-body c = c.requires.by_index _ (rw c.in-When.is (Memᴰ.head refl))

pub offset_bounds-sets-first : goal.offset_bounds-sets-first
offset_bounds-sets-first c = omega (arith, c.well_formed, c.requires.by_index c.in-Parallel.first (rw c.in-Parallel.is (Memᴰ.head refl)))

pub offset_bounds-sets-second : goal.offset_bounds-sets-second
offset_bounds-sets-second c = omega (arith, c.well_formed, c.requires.by_index c.in-Parallel.second (rw c.in-Parallel.is (Memᴰ.tail (Memᴰ.head refl))))

pub offset_bounds-sets-body : goal.offset_bounds-sets-body
offset_bounds-sets-body c = omega (arith, c.well_formed, c.requires.by_index c.in-When.body (rw c.in-When.is (Memᴰ.head refl)))

pub overflow_shl-result : goal.overflow_shl-result
overflow_shl-result c = c.requires.by_index_2 _ (rw c.in-Call.is (Memᴰ.head refl))

pub returns-in-Skip : goal.returns-in-Skip
returns-in-Skip c = grind (arith, in_set_none)

pub returns-in-Parallel : goal.returns-in-Parallel
returns-in-Parallel c = λ q h. rw c.in-Parallel.is (in_set_or _ _ q)

pub returns-in-Call : goal.returns-in-Call
returns-in-Call c = λ q h. rw c.in-Call.is (in_set_one c.in-Call.procedure q (c.requires.by_index_2 _ (rw c.in-Call.is (Memᴰ.head refl))))
