use Rattle.std.proofs.Common.{◌≤◌, length, arith}
use Rattle.litmus_histograms.specs.{Counting.in_rows, Text.has_bar_for}
use Rattle.litmus_histograms.proofs.Turns.{counted, counted_all}
use Rattle.litmus_histograms.proofs.histogram.states_of.Goals as goal

pub loop-index-preserved : goal.loop-index-preserved
loop-index-preserved c =
    counted (has_bar_for c.args.test.now (in_rows c.args.rows.now)) c.args.outcomes.now.listed c.loop-index.index _
    c.has_bar_at.result c.loop-index-test.true c.count-index-end.ensures c.has_bar_at.ensures c.loop-index.states
    c.from-states.result c.from-states.ensures c.loop-index.invariant

pub returns : goal.returns
returns c =
    let over : length c.args.outcomes.now.listed ≤ c.loop-index.index =
    omega (arith, c.loop-index-test.false, c.count-index-end.ensures) in
    counted_all (has_bar_for c.args.test.now (in_rows c.args.rows.now)) c.args.outcomes.now.listed c.loop-index.index
    c.loop-index.states over c.loop-index.invariant.0
