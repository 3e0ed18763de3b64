use Rattle.std.proofs.Common.{take}
use Rattle.chart_columns.specs.Limits.{AreRaised}
use Rattle.chart_columns.proofs.limits.enter_rows.Given as goal

-- those so far are counted
abbrev pub invariant-loop-index : goal.invariant-loop-index
invariant-loop-index l = AreRaised (take l.index l.rows) l.fn.limits l.limits
