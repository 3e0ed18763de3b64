use Rattle.std.proofs.Common.{◌≡◌, ◌+◌, ◌≤◌, ◌-◌, length}
use Rattle.searches.specs.Sweeps.{found_by, IsSwept, Keeps}
use Rattle.searches.proofs.exploring.sweep_all.Given as goal

abbrev pub invariant-loop-place : goal.invariant-loop-place
invariant-loop-place g l = record {
  grows : g.M.Machine.Grows l.initial.machine l.machine;
  harts : l.sweep.harts ≡ g.M.Machine.harts l.machine;
  same : l.sweep.harts ≡ l.initial.sweep.harts;
  swept : IsSwept (g.M.Machine.Knows l.machine) (g.M.Machine.Steps l.machine) l.place 0 (found_by l.sweep);
  kept : Keeps l.initial.sweep.states.keys l.sweep.states.keys;
  few : length l.sweep.states.keys ≤ l.budget + 1;
  inside : l.place ≤ length l.sweep.states.keys;
  least : l.place ≤ l.budget;
}

abbrev pub decreases-loop-place : goal.decreases-loop-place
decreases-loop-place g l = l.budget - l.place
