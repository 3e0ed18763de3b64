use Rattle.std.proofs.Common.{◌-◌}
use Rattle.source_lines.proofs.Halving.{LiesBetween}
use Rattle.source_lines.proofs.reading.SourceLines.line_at.Given as goal

abbrev pub invariant-loop-low : goal.invariant-loop-low
invariant-loop-low l = LiesBetween l.lines l.address l.low l.high

abbrev pub decreases-loop-low : goal.decreases-loop-low
decreases-loop-low l = l.high - l.low
