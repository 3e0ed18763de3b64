use Rattle.std.proofs.Common.{rules, nat_lt}
use Rattle.std.proofs.lemmas.List.Sorted.{IsPartitionPoint-from_clause}
use Rattle.chart_columns.proofs.Counting.{counted, lower_first}
use Rattle.chart_columns.proofs.table.count_lower.Goals as goal

pub returns : goal.returns
returns c =
    counted (λ other. nat_lt other c.args.column) c.args.columns.now c.partition_point.result
    c.partition_point.ensures.bound
    (IsPartitionPoint-from_clause (λ other. nat_lt other c.args.column) c.args.columns.now c.partition_point.result
    c.partition_point.ensures.partitioned (lower_first c.args.columns.now c.args.column c.requires)
    (λ a r f called. search rules))
