use Rattle.std.proofs.Common.{◌≡◌, ◌++◌, take}
use Rattle.std.specs.Prelude.{flat_map}
use Rattle.litmus_files.specs.Names.{name_of}
use Rattle.litmus_files.proofs.names.push_names.Given as goal

-- the names of those so far are at the end
abbrev pub invariant-loop-location : goal.invariant-loop-location
invariant-loop-location l =
    l.bytes.items ≡ l.initial.bytes.items ++ flat_map name_of (take l.location-index l.locations)
