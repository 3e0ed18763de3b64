use Rattle.std.proofs.Common.{take}
use Rattle.chart_columns.specs.Limits.{AreRaisedBy}
use Rattle.chart_columns.proofs.limits.enter_marks.Given as goal

-- those so far are counted
abbrev pub invariant-loop-index : goal.invariant-loop-index
invariant-loop-index l = AreRaisedBy (take l.index l.marks) l.marks l.fn.limits l.limits
