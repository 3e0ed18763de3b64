use Rattle.std.proofs.Common.{arith}
use Rattle.issue_queue.proofs.Moving.{closed_more}
use Rattle.issue_queue.proofs.plain.close_gap.Goals as goal

pub loop-i-preserved : goal.loop-i-preserved
loop-i-preserved c =
    closed_more c.args.entries.now c.loop-i.entries c.args.place c.loop-i.i _ (omega (arith, c.loop-i.auto.i))
    (omega (arith, c.loop-i-test.true)) c.loop-i.invariant
