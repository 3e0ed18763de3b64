use Rattle.std.proofs.Common.{length, ◌≤◌}
use Rattle.litmus_cycles.specs.Searched.{IsFound, Searches, HasCounted}
use Rattle.litmus_cycles.proofs.{Wholes.wanted_below, Counting.count_below}
use Rattle.litmus_cycles.proofs.searching.+choose_ways.Given as goal

abbrev pub decreases-choose_ways : goal.decreases-choose_ways
decreases-choose_ways g l = length l.left.now

abbrev pub invariant-loop-index : goal.invariant-loop-index
invariant-loop-index g l = record {
  found : IsFound l.test l.findings;
  searches : Searches l.demand (wanted_below l.test l.runs l.demand l.chosen l.rest l.index) l.initial.findings
      l.findings;
  counts : HasCounted (count_below l.test l.runs l.chosen l.rest l.index) l.initial.findings l.findings;
  inside : l.index ≤ l.index-end;
}
