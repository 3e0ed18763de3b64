use Rattle.std.proofs.Common.{length, ◌≡◌, ◌≤◌, ◌+◌}
use Rattle.litmus_cycles.specs.Searched.{IsFound, Searches}
use Rattle.litmus_cycles.proofs.Wholes.{wanted_turns}
use Rattle.litmus_cycles.proofs.searching.+decide.Given as goal

abbrev pub decreases-decide : goal.decreases-decide
decreases-decide l = length l.left.now

abbrev pub invariant-loop-turn : goal.invariant-loop-turn
invariant-loop-turn l = record {
  found : IsFound l.asked.test.now l.findings;
  searches : Searches l.asked.demand (wanted_turns l.asked.test.now l.asked.runs.now l.asked.chosen.now l.asked.demand
      l.first l.rest l.events l.turn) l.initial.findings l.findings;
  counts : l.findings.candidates ≡ l.initial.findings.candidates;
  inside : l.turn ≤ length l.events + 1;
}
