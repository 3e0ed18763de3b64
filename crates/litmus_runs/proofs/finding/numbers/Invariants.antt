use Rattle.std.proofs.Common.{All, Contains, take}
use Rattle.litmus_runs.specs.declared.finding.Found.{Found}
use Rattle.litmus_runs.specs.Ways.{IsOneOf}
use Rattle.litmus_runs.proofs.finding.numbers.Given as goal

abbrev pub invariant-loop-held : goal.invariant-loop-held
invariant-loop-held l = record {
  each : All (IsOneOf l.known.held.items l.location) l.all.items;
  all : (one : Found) → IsOneOf (take l.held-index l.known.held.items) l.location one → Contains l.all.items one;
}
