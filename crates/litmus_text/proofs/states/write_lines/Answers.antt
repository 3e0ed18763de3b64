use Rattle.std.proofs.Common.{◌≤◌, length, arith}
use Rattle.litmus_text.proofs.Counting.{all_written, line_step}
use Rattle.litmus_text.proofs.states.write_lines.Goals as goal

pub loop-index-preserved : goal.loop-index-preserved
loop-index-preserved g c =
    line_step c.args.test.now c.args.outcomes.now.listed _ _ _ c.loop-index.index _
    c.loop-index-test.true c.count-index-end.ensures c.loop-index.invariant c.in_ok-write_line_at.ensures

pub returns : goal.returns
returns g c =
    let over : length c.args.outcomes.now.listed ≤ c.loop-index.index = omega (arith, c.loop-index-test.false, c.count-index-end.ensures) in
    all_written c.args.test.now c.args.outcomes.now.listed _ _ c.loop-index.index over c.loop-index.invariant
