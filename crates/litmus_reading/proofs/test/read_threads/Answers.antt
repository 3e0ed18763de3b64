use Rattle.std.proofs.Common.{◌≤◌, ◌+◌, ap, arith, length, length-append, refl, ◌∙◌}
use Rattle.litmus_tests.specs.Limits.{most_steps}
use Rattle.litmus_tests.specs.declared.test.Thread.{Thread}
use Rattle.litmus_reading.proofs.Alike.{first_thread, next_thread, of_first, threads_begin, threads_over}
use Rattle.litmus_reading.proofs.Chains.{passed_on}
use Rattle.litmus_reading.proofs.Wholes.{thread_more, threads_all}
use Rattle.litmus_reading.proofs.test.read_threads.Goals as goal

pub loop-hart-init : goal.loop-hart-init
loop-hart-init c =
    rw c.new-threads.ensures.items
    (record { count = refl; are = λ more are. are; left = λ all are long few. threads_begin _ _ _ all are })

pub loop-hart-preserved : goal.loop-hart-preserved
loop-hart-preserved c = record {
  count = ap length c.in_ok-push.ensures.items ∙ length-append _ _ ∙ ap (λ n. n + 1) c.loop-hart.invariant.count;
  are = thread_more c.args.text.now c.args.rows.now c.args.entries.now c.loop-hart.hart _ _ _ c.loop-hart.invariant.are c.in_ok-starts_of.ensures.starts
      c.in_ok-read_steps.ensures.spelled c.in_ok-push.ensures.items;
  left = λ all are long few.
      let inside = c.loop-hart-test.true in
      let first = first_thread _ _ _ _ all _ (c.loop-hart.invariant.left all are long few) (omega (arith, long, inside)) in
      next_thread _ _ _ _ all _ _ _ first c.in_ok-starts_of.ensures.starts
      (c.in_ok-read_steps.ensures.only first.thread.steps.items first.steps
      (of_first _ _ _ _ all _ (λ (thread : Thread). length thread.steps.items ≤ most_steps) first few))
      c.in_ok-push.ensures.items;
}

pub returns-in_err-read_steps-clause-only : goal.returns-in_err-read_steps-clause-only
returns-in_err-read_steps-clause-only c = λ all are long few.
    let inside = c.loop-hart-test.true in
    let first = first_thread _ _ _ _ all _ (c.loop-hart.invariant.left all are long few) (omega (arith, long, inside)) in
    passed_on c.from_residual-in_err-read_steps.result c.in_err-read_steps.field-0.0 _ _
    c.from_residual-in_err-read_steps.ensures.1
    (c.in_err-read_steps.ensures.only first.thread.steps.items first.steps
    (of_first _ _ _ _ all _ (λ (thread : Thread). length thread.steps.items ≤ most_steps) first few))

pub returns-clause-are : goal.returns-clause-are
returns-clause-are c =
    threads_all c.args.text.now c.args.rows.now c.args.entries.now c.loop-hart.hart _ c.loop-hart.invariant.are

pub returns-clause-only : goal.returns-clause-only
returns-clause-only c = λ all are long few.
    let past = c.loop-hart-test.false in
    threads_over _ _ _ _ all _ (c.loop-hart.invariant.left all are long few) (omega (arith, long, past))
