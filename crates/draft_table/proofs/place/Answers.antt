-- `place`: the pairs that stand before the row come first.
use Rattle.std.proofs.Common.{ltb, take, rules, of_calls}
use Rattle.std.proofs.lemmas.List.Sorted.{IsPartitionPoint-from_clause}
use Rattle.draft_pairs.specs.Rows.{row_value}
use Rattle.draft_table.proofs.Tables.{rows_parted, rows_placed}
use Rattle.draft_table.proofs.place.Goals as goal

pub returns : goal.returns
returns c =
    let rows = take c.args.count c.args.table.now in
    let key = row_value c.args.row in
    rows_placed rows key c.partition_point.ensures.bound
    (IsPartitionPoint-from_clause (λ row. ltb (row_value row) key) rows _ c.partition_point.ensures.partitioned (rows_parted rows key c.requires.rising) (λ a r q k. search (rules, of_calls)))
