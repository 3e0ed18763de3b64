use Rattle.std.proofs.Common.{arith}
use Rattle.issue_queue.proofs.Commanding.{given_step, all_answered, all_left}
use Rattle.issue_queue.proofs.commands.run_queue.Goals as goal

pub loop-command-preserved : goal.loop-command-preserved
loop-command-preserved g c =
    let i = c.loop-command.invariant in
    record {
      so_far = given_step (g.Q.TaggedQueue.queue c.args.queue.now) (g.Q.TaggedQueue.queue c.loop-command.queue)
          (g.Q.TaggedQueue.queue c.give.new.queue) c.args.commands.now c.loop-command.given.items
          c.push_reserved.new.self.items c.give.result c.loop-command.command-index _ c.loop-command-test.true i.so_far
          c.push_reserved.ensures.items c.give.ensures.answer c.give.ensures.after;
      len = omega (arith, c.push_reserved.ensures.len, i.len);
      room = omega (arith, c.push_reserved.ensures.capacity, i.room);
    }

pub returns-clause-answers : goal.returns-clause-answers
returns-clause-answers g c =
    all_answered (g.Q.TaggedQueue.queue c.args.queue.now) (g.Q.TaggedQueue.queue c.loop-command.queue)
    c.args.commands.now c.loop-command.given.items c.loop-command.command-index c.loop-command-test.false
    c.loop-command.invariant.so_far

pub returns-clause-queue : goal.returns-clause-queue
returns-clause-queue g c =
    all_left (g.Q.TaggedQueue.queue c.args.queue.now) (g.Q.TaggedQueue.queue c.loop-command.queue) c.args.commands.now
    c.loop-command.given.items c.loop-command.command-index c.loop-command-test.false c.loop-command.invariant.so_far
