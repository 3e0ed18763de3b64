use Rattle.std.proofs.Common.{◌≤◌, length, arith}
use Rattle.litmus_text.specs.States.{passes}
use Rattle.litmus_text.proofs.Counting.{counted, passing_is}
use Rattle.litmus_text.proofs.states.passing_of.Goals as goal

pub loop-index-preserved : goal.loop-index-preserved
loop-index-preserved c =
    counted (passes c.args.test.now) c.args.outcomes.now.listed c.loop-index.index _ c.passes_at.result
    c.loop-index-test.true c.count-index-end.ensures c.passes_at.ensures c.loop-index.passing c.from-passing.result
    c.from-passing.ensures c.loop-index.invariant

pub returns : goal.returns
returns c =
    let over : length c.args.outcomes.now.listed ≤ c.loop-index.index = omega (arith, c.loop-index-test.false, c.count-index-end.ensures) in
    passing_is c.args.test.now c.args.outcomes.now.listed c.loop-index.index c.loop-index.passing over
    c.loop-index.invariant.0
