use Rattle.std.proofs.Common.{take}
use Rattle.chart_columns.specs.Limits.{AreBehind}
use Rattle.chart_columns.proofs.marks.behind_marks.Given as goal

-- the latest of those so far
abbrev pub invariant-loop-index : goal.invariant-loop-index
invariant-loop-index l = AreBehind l.place (take l.index l.marks) l.latest
