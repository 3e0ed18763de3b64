use Rattle.outcomes.specs.Collected.{is_zero}
use Rattle.outcomes.proofs.Throughout.{fails_at, holds_so_far}
use Rattle.outcomes.proofs.unwritten.is_unwritten.Goals as goal

pub returns-then-not-is_zero_at : goal.returns-then-not-is_zero_at
returns-then-not-is_zero_at c =
    fails_at (is_zero c.args.machine.now c.args.bytes) c.args.search.now.states c.loop-place.place _ c.is_zero_at.result
    c.loop-place-test.true c.states-place-end.ensures c.is_zero_at.ensures c.if-not-is_zero_at.true

pub loop-place-preserved : goal.loop-place-preserved
loop-place-preserved c =
    holds_so_far (is_zero c.args.machine.now c.args.bytes) c.args.search.now.states c.loop-place.place _
    c.is_zero_at.result c.loop-place-test.true c.states-place-end.ensures c.is_zero_at.ensures c.if-not-is_zero_at.false
    c.loop-place.invariant
