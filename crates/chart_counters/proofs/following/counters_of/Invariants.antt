use Rattle.std.proofs.Common.{◌≡◌}
use Rattle.chart_counters.specs.Counters.{past_at}
use Rattle.chart_counters.proofs.Followed.{AreSoFar}
use Rattle.chart_counters.proofs.following.counters_of.Given as goal

-- the core has followed the events so far, and the numbers behind those from the first on are there
abbrev pub invariant-loop-index : goal.invariant-loop-index
invariant-loop-index l = record {
  core : l.core ≡ record l.initial.core { past = past_at l.events l.index };
  counters : AreSoFar l.initial.core.setup l.events l.from l.index l.counters.items;
}
