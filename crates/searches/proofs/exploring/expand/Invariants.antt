use Rattle.std.proofs.Common.{◌≡◌, ◌+◌, ◌≤◌, length, slice_get, Some}
use Rattle.searches.specs.Sweeps.{found_by, IsSwept, Keeps}
use Rattle.searches.proofs.Turning.{Looked}
use Rattle.searches.proofs.exploring.expand.Given as goal

abbrev pub invariant-loop-hart : goal.invariant-loop-hart
invariant-loop-hart g l = record {
  grows : g.M.Machine.Grows l.initial.machine l.machine;
  harts : l.sweep.harts ≡ g.M.Machine.harts l.machine;
  same : l.sweep.harts ≡ l.initial.sweep.harts;
  swept : IsSwept (g.M.Machine.Knows l.machine) (g.M.Machine.Steps l.machine) l.place l.hart (found_by l.sweep);
  kept : Keeps l.initial.sweep.states.keys l.sweep.states.keys;
  few : length l.sweep.states.keys ≤ l.budget + 1;
  here : slice_get l.sweep.states.keys l.place ≡ Some l.state;
  looked : Looked (found_by l.sweep) l.place l.hart l.is_end;
}
