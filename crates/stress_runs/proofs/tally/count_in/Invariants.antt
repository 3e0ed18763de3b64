use Rattle.std.proofs.Common.{◌≡◌, ◌++◌, map, take, drop}
use Rattle.std.specs.List.{list_any}
use Rattle.stress_runs.specs.Ends.{has_end, counting}
use Rattle.stress_runs.proofs.tally.count_in.Given as goal

-- the rows so far have counted the run, and it is told whether one of them is of its end
abbrev pub invariant-loop-row : goal.invariant-loop-row
invariant-loop-row l = record {
  counted : l.rows ≡ map (counting l.end) (take l.row-index l.initial.rows) ++ drop l.row-index l.initial.rows;
  there : l.there ≡ list_any (has_end l.end) (take l.row-index l.initial.rows);
}
