use Rattle.std.proofs.Common.{List, ◌++◌, drop}
use Rattle.litmus_tests.specs.declared.location.Location.{Location}
use Rattle.litmus_reading.specs.Texts.{AreLocations}
use Rattle.litmus_reading.proofs.test.read_locations.Given as goal

-- those of the rest are, behind those so far, all
abbrev pub invariant-loop-name : goal.invariant-loop-name
invariant-loop-name l = (more : List Location) → AreLocations l.text l.whole (drop l.name-index l.names) more
    → AreLocations l.text l.whole l.names (l.locations.items ++ more)
