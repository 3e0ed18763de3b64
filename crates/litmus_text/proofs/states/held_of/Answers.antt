use Rattle.litmus_text.specs.States.{is_held}
use Rattle.std.proofs.Common.{◌≤◌, length, arith}
use Rattle.litmus_text.proofs.Counting.{counted, held_at_most, held_is}
use Rattle.litmus_text.proofs.states.held_of.Goals as goal

pub loop-index-preserved : goal.loop-index-preserved
loop-index-preserved c =
    counted (is_held c.args.test.now) c.args.outcomes.now.listed c.loop-index.index _ c.holds_at.result
    c.loop-index-test.true c.count-index-end.ensures c.holds_at.ensures c.loop-index.held c.from-held.result
    c.from-held.ensures c.loop-index.invariant

pub returns-clause-held : goal.returns-clause-held
returns-clause-held c =
    let over : length c.args.outcomes.now.listed ≤ c.loop-index.index = omega (arith, c.loop-index-test.false, c.count-index-end.ensures) in
    held_is c.args.test.now c.args.outcomes.now.listed c.loop-index.index c.loop-index.held over c.loop-index.invariant.0

pub returns-clause-few : goal.returns-clause-few
returns-clause-few c =
    let over : length c.args.outcomes.now.listed ≤ c.loop-index.index = omega (arith, c.loop-index-test.false, c.count-index-end.ensures) in
    held_at_most c.args.test.now c.args.outcomes.now.listed c.loop-index.index c.loop-index.held over c.loop-index.invariant.0
