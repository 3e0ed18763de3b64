use Rattle.std.proofs.Common.{◌≡◌, ◌≤◌, ◌*◌, take}
use Rattle.std.specs.Prelude.{sum_by}
use Rattle.litmus_tests.specs.WellFormed.{step_length}
use Rattle.litmus_tests.proofs.test.steps_length.Given as goal

-- the words of those so far, two each at most
abbrev pub invariant-loop-step : goal.invariant-loop-step
invariant-loop-step l = record {
  counted : l.words ≡ sum_by step_length (take l.step-index l.steps);
  small : l.words ≤ 2 * l.step-index;
}
