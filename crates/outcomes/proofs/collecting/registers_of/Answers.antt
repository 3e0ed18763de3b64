use Rattle.outcomes.proofs.Watching.{there_at}
use Rattle.outcomes.proofs.collecting.registers_of.Goals as goal

pub register-requires-clause-hart : goal.register-requires-clause-hart
register-requires-clause-hart c =
    (there_at _ c.args.watch.now c.as_slice-watched-items.result.now c.loop-watched.watched-index _
    c.as_slice-watched-items.ensures.value c.loop-watched-test.true c.requires.registers).0

pub register-requires-clause-register : goal.register-requires-clause-register
register-requires-clause-register c =
    (there_at _ c.args.watch.now c.as_slice-watched-items.result.now c.loop-watched.watched-index _
    c.as_slice-watched-items.ensures.value c.loop-watched-test.true c.requires.registers).1
