use Rattle.std.proofs.Common.{take, All}
use Rattle.litmus_tests.specs.WellFormed.{IsStart}
use Rattle.litmus_reading.proofs.sound.are_starts.Given as goal

abbrev pub invariant-loop-start : goal.invariant-loop-start
invariant-loop-start l = All (IsStart l.words) (take l.start-index l.starts)
