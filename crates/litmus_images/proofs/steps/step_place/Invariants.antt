use Rattle.std.proofs.Common.{◌≡◌, ◌≤◌, ◌*◌, take}
use Rattle.std.specs.Prelude.{sum_by}
use Rattle.litmus_tests.specs.WellFormed.{step_length}
use Rattle.litmus_images.proofs.steps.step_place.Given as goal

-- the words of those so far, two each at most
abbrev pub invariant-loop-step : goal.invariant-loop-step
invariant-loop-step l = record {
  counted : l.place ≡ sum_by step_length (take l.step-index l.step-items);
  small : l.place ≤ 2 * l.step-index;
}
