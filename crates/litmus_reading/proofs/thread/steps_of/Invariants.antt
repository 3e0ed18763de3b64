use Rattle.std.proofs.Common.{◌≡◌, List, take}
use Rattle.litmus_tests.specs.declared.step.LitmusStep.{LitmusStep}
use Rattle.litmus_reading.specs.Threads.{AreStepsOf}
use Rattle.litmus_reading.proofs.thread.steps_of.Given as goal

-- those so far are, and are the first of any that are all
abbrev pub invariant-loop-written : goal.invariant-loop-written
invariant-loop-written l = record {
  are : AreStepsOf l.text l.labels (take l.written-index l.all) l.steps.items;
  only : (steps : List LitmusStep) → AreStepsOf l.text l.labels l.all steps
      → l.steps.items ≡ take l.written-index steps;
}
