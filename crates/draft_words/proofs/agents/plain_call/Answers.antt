-- `plain_call`: the place in the whole table of the procedure under the set, less the agents, which come first.
use mathlib.Core.List.Memᴰ
use Rattle.std.proofs.Common.{refl, ap, arith}
use Rattle.tcc.specs.declared.Agent.TheVariants.{Call}
use Rattle.draft_words.proofs.Standing.{table_rises, procedure_stands, listing, call_few, call_stands}
use Rattle.draft_words.proofs.agents.plain_call.Goals as goal

pub overflow_add-procedure : goal.overflow_add-procedure
overflow_add-procedure c =
    let listed = listing c.args.source.gathered c.requires.fact c.requires.row_value in
    omega (arith, call_few listed c.args.procedure (Memᴰ.head refl))

pub place-requires-clause-rising : goal.place-requires-clause-rising
place-requires-clause-rising c = table_rises c.args.source.gathered

pub overflow_sub-result : goal.overflow_sub-result
overflow_sub-result c =
    let listed = listing c.args.source.gathered c.requires.fact c.requires.row_value in
    omega (arith, procedure_stands c.args.source.gathered c.place.ensures c.renumbered-called.ensures (call_stands listed c.args.procedure (Memᴰ.head refl)))

pub returns : goal.returns
returns c =
    let listed = listing c.args.source.gathered c.requires.fact c.requires.row_value in
    ap Call (omega (arith, procedure_stands c.args.source.gathered c.place.ensures c.renumbered-called.ensures (call_stands listed c.args.procedure (Memᴰ.head refl))))
