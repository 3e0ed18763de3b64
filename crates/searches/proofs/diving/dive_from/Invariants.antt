use Rattle.std.proofs.Common.{◌≡◌, ◌^◌, ◌<◌, ◌≤◌, length}
use Rattle.searches.specs.Sweeps.{found_by, AreTraced, Keeps}
use Rattle.searches.proofs.diving.dive_from.Given as goal

abbrev pub invariant-loop-step : goal.invariant-loop-step
invariant-loop-step g l = record {
  grows : g.M.Machine.Grows l.initial.machine l.machine;
  harts : l.sweep.harts ≡ g.M.Machine.harts l.machine;
  same : l.sweep.harts ≡ l.initial.sweep.harts;
  traced : AreTraced (g.M.Machine.Knows l.machine) (g.M.Machine.Steps l.machine) (found_by l.sweep);
  kept : Keeps l.initial.sweep.states.keys l.sweep.states.keys;
  few : length l.sweep.states.keys ≤ 2 ^ 32;
  inside : l.place < length l.sweep.states.keys;
  present : l.hart ≤ l.sweep.harts;
}
