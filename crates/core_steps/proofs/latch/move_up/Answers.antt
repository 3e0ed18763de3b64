use Rattle.std.proofs.Common.{arith}
use Rattle.issue_queue.proofs.Moving.{closed_more}
use Rattle.core_steps.proofs.latch.move_up.Goals as goal

pub loop-place-preserved : goal.loop-place-preserved
loop-place-preserved c =
    closed_more c.args.slots.now c.loop-place.slots 0 c.loop-place.place _ (omega (arith))
    (omega (arith, c.loop-place-test.true)) c.loop-place.invariant
