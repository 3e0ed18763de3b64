use Rattle.std.proofs.Common.{take}
use Rattle.litmus_reading.specs.Starts.{AreOfHarts}
use Rattle.litmus_reading.proofs.start.check_harts.Given as goal

-- those so far are
abbrev pub invariant-loop-entry : goal.invariant-loop-entry
invariant-loop-entry l = AreOfHarts l.harts (take l.entry-index l.entries)
