use Rattle.std.proofs.Common.{◌≡◌, ◌^◌, ◌<◌, ◌≤◌, length}
use Rattle.searches.specs.Sweeps.{found_by, AreTraced, Keeps}
use Rattle.searches.proofs.diving.dive.Given as goal

abbrev pub invariant-loop-number : goal.invariant-loop-number
invariant-loop-number g l = record {
  grows : g.M.Machine.Grows l.initial.machine l.machine;
  harts : l.sweep.harts ≡ g.M.Machine.harts l.machine;
  same : l.sweep.harts ≡ l.initial.sweep.harts;
  traced : AreTraced (g.M.Machine.Knows l.machine) (g.M.Machine.Steps l.machine) (found_by l.sweep);
  kept : Keeps l.initial.sweep.states.keys l.sweep.states.keys;
  few : length l.sweep.states.keys ≤ 2 ^ 32;
}
