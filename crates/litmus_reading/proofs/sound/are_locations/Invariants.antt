use Rattle.std.proofs.Common.{take, All}
use Rattle.litmus_tests.specs.WellFormed.{IsLocation}
use Rattle.litmus_reading.proofs.sound.are_locations.Given as goal

abbrev pub invariant-loop-location : goal.invariant-loop-location
invariant-loop-location l = All (IsLocation l.words) (take l.location-index l.locations)
