use Rattle.std.proofs.Common.{◌≡◌, ◌++◌, drop}
use Rattle.litmus_files.specs.Names.{entries, names_begin}
use Rattle.litmus_files.proofs.names.push_entries.Given as goal

-- the entries so far and those of the locations that are left are those of all
abbrev pub invariant-loop-location : goal.invariant-loop-location
invariant-loop-location l = l.table.items ++ entries (drop l.location-index l.locations) l.begin
    ≡ l.initial.table.items ++ entries l.locations names_begin
