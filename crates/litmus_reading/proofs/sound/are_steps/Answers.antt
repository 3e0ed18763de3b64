use Rattle.std.proofs.Common.{length}
use Rattle.std.proofs.lemmas.List.Elements.{All-more}
use Rattle.litmus_tests.specs.WellFormed.{IsStep}
use Rattle.litmus_reading.proofs.Told.{all_told}
use Rattle.litmus_reading.proofs.sound.are_steps.Goals as goal

pub loop-step-preserved : goal.loop-step-preserved
loop-step-preserved c =
    All-more (IsStep (length c.args.steps.now)) c.args.steps.now _ _ c.loop-step-test.true c.loop-step.invariant
    (c.is_step.ensures.yes c.if-not-is_step.false)

pub returns-clause-yes : goal.returns-clause-yes
returns-clause-yes c = λ is.
    all_told (IsStep (length c.args.steps.now)) c.args.steps.now c.loop-step.step-index c.loop-step-test.false c.loop-step.invariant

pub returns-then-not-is_step-clause-no : goal.returns-then-not-is_step-clause-no
returns-then-not-is_step-clause-no c = λ is all.
    c.is_step.ensures.no c.if-not-is_step.true (all c.loop-step.step-index _ c.loop-step-test.true)
