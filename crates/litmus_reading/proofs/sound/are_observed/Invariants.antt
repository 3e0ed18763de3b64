use Rattle.std.proofs.Common.{take, All}
use Rattle.litmus_tests.specs.WellFormed.{IsObserved}
use Rattle.litmus_reading.proofs.sound.are_observed.Given as goal

abbrev pub invariant-loop-one : goal.invariant-loop-one
invariant-loop-one l = All (IsObserved l.harts l.locations) (take l.one-index l.observed)
