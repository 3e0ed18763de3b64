use Rattle.std.proofs.Common.{◌≤◌, length}
use Rattle.litmus_reading.proofs.faults.Faults.see_rows.Given as goal

abbrev pub invariant-loop-row : goal.invariant-loop-row
invariant-loop-row l = length l.rest ≤ length l.words

abbrev pub decreases-loop-row : goal.decreases-loop-row
decreases-loop-row l = length l.rest
