use Rattle.std.proofs.Common.{◌≡◌, map, take}
use Rattle.chart_columns.specs.Tables.{placed}
use Rattle.chart_columns.proofs.table.ColumnTable.place_all.Given as goal

-- those so far are placed
abbrev pub invariant-loop-row : goal.invariant-loop-row
invariant-loop-row l = l.placed.items ≡ map (placed l.self) (take l.row-index l.rows)
