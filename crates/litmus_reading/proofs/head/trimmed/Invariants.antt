use Rattle.std.proofs.Common.{◌-◌, ◌≤◌}
use Rattle.litmus_reading.specs.Heads.{AreBlank}
use Rattle.litmus_reading.proofs.head.trimmed.Given as goal

-- blanks alone so far
abbrev pub invariant-loop-from : goal.invariant-loop-from
invariant-loop-from l = record {
  on : l.start ≤ l.from;
  inside : l.from ≤ l.end;
  before : AreBlank l.text l.start l.from;
}

abbrev pub decreases-loop-from : goal.decreases-loop-from
decreases-loop-from l = l.end - l.from

abbrev pub invariant-loop-to : goal.invariant-loop-to
invariant-loop-to l = record {
  on : l.from ≤ l.to;
  inside : l.to ≤ l.end;
  behind : AreBlank l.text l.to l.end;
}

abbrev pub decreases-loop-to : goal.decreases-loop-to
decreases-loop-to l = l.to
