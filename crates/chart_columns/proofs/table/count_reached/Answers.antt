use Rattle.std.proofs.Common.{rules, nat_le}
use Rattle.std.proofs.lemmas.List.Sorted.{IsPartitionPoint-from_clause}
use Rattle.chart_columns.proofs.Counting.{counted, reached_first}
use Rattle.chart_columns.proofs.table.count_reached.Goals as goal

pub returns : goal.returns
returns c =
    counted (λ other. nat_le other c.args.column) c.args.columns.now c.partition_point.result
    c.partition_point.ensures.bound
    (IsPartitionPoint-from_clause (λ other. nat_le other c.args.column) c.args.columns.now c.partition_point.result
    c.partition_point.ensures.partitioned (reached_first c.args.columns.now c.args.column c.requires)
    (λ a r f called. search rules))
