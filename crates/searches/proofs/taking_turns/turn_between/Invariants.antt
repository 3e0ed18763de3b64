use Rattle.std.proofs.Common.{ℕ, ◌<◌, ◌≤◌, None}
use Rattle.searches.proofs.taking_turns.turn_between.Given as goal

-- the harts before this one have no step
abbrev pub invariant-loop-hart : goal.invariant-loop-hart
invariant-loop-hart g l = record {
  grows : g.M.Machine.Grows l.initial.machine l.machine;
  known : g.M.Machine.Knows l.machine l.state;
  present : l.behind ≤ g.M.Machine.harts l.machine;
  none : (h : ℕ) → l.first ≤ h → h < l.hart → g.M.Machine.Steps l.machine l.state h None;
}
