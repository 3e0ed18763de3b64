use Rattle.std.proofs.Common.{length}
use Rattle.litmus_suites.proofs.Growing.{AreRead}
use Rattle.litmus_suites.proofs.summary_lines.read_lines.Given as goal

-- the lines so far are read
abbrev pub invariant-loop-left : goal.invariant-loop-left
invariant-loop-left l = AreRead l.text l.lines.items l.left

abbrev pub decreases-loop-left : goal.decreases-loop-left
decreases-loop-left l = length l.left
