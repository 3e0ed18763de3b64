use Rattle.std.proofs.Common.{get_or, refl}
use Rattle.litmus_reading.proofs.Columns.{all_steps, one_step_more, so_far_all, so_far_more, some_step, step_at}
use Rattle.litmus_reading.proofs.thread.steps_of.Goals as goal

pub loop-written-init : goal.loop-written-init
loop-written-init c = rw c.new-steps.ensures.items (record { are = tt; only = λ steps are. refl })

pub loop-written-preserved : goal.loop-written-preserved
loop-written-preserved c = record {
  are = one_step_more c.args.text.now c.args.labels.now c.args.all.now c.loop-written.written-index _
      c.loop-written.steps.items _ _ c.loop-written-test.true c.loop-written.invariant.are c.in_ok-step.ensures.is
      c.in_ok-push.ensures.items;
  only = λ steps are. so_far_more c.args.text.now c.args.labels.now c.args.all.now steps _ _ c.loop-written.written-index _
      c.loop-written-test.true are (c.loop-written.invariant.only steps are)
      (c.in_ok-step.ensures.only (get_or steps c.loop-written.written-index some_step)
      (step_at c.args.text.now c.args.labels.now c.args.all.now steps c.loop-written.written-index _ some_step
      c.loop-written-test.true are)) c.in_ok-push.ensures.items;
}

pub returns-in_err-step-clause-only : goal.returns-in_err-step-clause-only
returns-in_err-step-clause-only c = λ steps are.
    absurd (c.in_err-step.ensures.only (get_or steps c.loop-written.written-index some_step)
    (step_at c.args.text.now c.args.labels.now c.args.all.now steps c.loop-written.written-index _ some_step
    c.loop-written-test.true are))

pub returns-clause-are : goal.returns-clause-are
returns-clause-are c =
    all_steps c.args.text.now c.args.labels.now c.args.all.now _ c.loop-written.steps.items c.loop-written-test.false
    c.loop-written.invariant.are

pub returns-clause-only : goal.returns-clause-only
returns-clause-only c = λ steps are.
    so_far_all c.args.text.now c.args.labels.now c.args.all.now steps _ _ c.loop-written-test.false are
    (c.loop-written.invariant.only steps are)
