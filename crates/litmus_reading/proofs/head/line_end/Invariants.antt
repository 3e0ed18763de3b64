use Rattle.std.proofs.Common.{◌-◌, ◌≤◌, length}
use Rattle.litmus_reading.specs.Heads.{LacksByte}
use Rattle.litmus_reading.proofs.head.line_end.Given as goal

-- no line end so far
abbrev pub invariant-loop-at : goal.invariant-loop-at
invariant-loop-at l = record {
  on : l.from ≤ l.at;
  inside : l.at ≤ length l.text;
  one : LacksByte l.text 10 l.from l.at;
}

abbrev pub decreases-loop-at : goal.decreases-loop-at
decreases-loop-at l = length l.text - l.at
