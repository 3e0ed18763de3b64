use Rattle.std.proofs.Common.{length, take, All}
use Rattle.litmus_tests.specs.WellFormed.{IsStep}
use Rattle.litmus_reading.proofs.sound.are_steps.Given as goal

abbrev pub invariant-loop-step : goal.invariant-loop-step
invariant-loop-step l = All (IsStep (length l.steps)) (take l.step-index l.steps)
