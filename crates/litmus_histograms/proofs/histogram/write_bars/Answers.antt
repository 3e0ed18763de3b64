use Rattle.std.proofs.Common.{◌≤◌, length, arith}
use Rattle.litmus_histograms.specs.{Counting.in_rows, Text.bar_for}
use Rattle.litmus_histograms.proofs.Turns.{all_written, line_step}
use Rattle.litmus_histograms.proofs.histogram.write_bars.Goals as goal

pub loop-index-preserved : goal.loop-index-preserved
loop-index-preserved g c =
    line_step (bar_for c.args.test.now (in_rows c.args.rows.now)) c.args.outcomes.now.listed _ _ _ c.loop-index.index _
    c.loop-index-test.true c.count-index-end.ensures c.loop-index.invariant c.in_ok-write_bar_at.ensures

pub returns : goal.returns
returns g c =
    let over : length c.args.outcomes.now.listed ≤ c.loop-index.index =
    omega (arith, c.loop-index-test.false, c.count-index-end.ensures) in
    all_written (bar_for c.args.test.now (in_rows c.args.rows.now)) c.args.outcomes.now.listed _ _ c.loop-index.index
    over c.loop-index.invariant
