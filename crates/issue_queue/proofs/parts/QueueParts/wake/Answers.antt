use Rattle.std.proofs.Common.{◌∙◌, sym}
use Rattle.issue_queue.proofs.Waking.{none_wakes, given_fewer}
use Rattle.issue_queue.proofs.parts.QueueParts.wake.Goals as goal

pub loop-node-smaller : goal.loop-node-smaller
loop-node-smaller c =
    given_fewer c.loop-node.self.entries c.give.new.self.entries c.in-Some.node c.args.register c.args.value
    c.in-Some.ensures.0 c.in-Some.ensures.1 c.loop-node.invariant.sound.placed c.give.ensures.given

pub returns-clause-woken : goal.returns-clause-woken
returns-clause-woken c =
    λ k. sym (none_wakes c.loop-node.self.entries c.args.register c.args.value c.loop-node.invariant.sound.placed
    c.in_default.ensures k) ∙ c.loop-node.invariant.woken k
