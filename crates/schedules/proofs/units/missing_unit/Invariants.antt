use Rattle.std.proofs.Common.{take}
use Rattle.std.specs.Prelude.{All}
use Rattle.schedules.specs.Refusals.{IsServed}
use Rattle.schedules.proofs.units.missing_unit.Given as goal

-- the records so far have their units
abbrev pub invariant-loop-record : goal.invariant-loop-record
invariant-loop-record l = All (IsServed l.roles) (take l.record-index l.records)
