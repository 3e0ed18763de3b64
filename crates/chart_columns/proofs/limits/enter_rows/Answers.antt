use Rattle.std.proofs.Common.{◌≤◌, length, arith}
use Rattle.chart_columns.proofs.Raising.{rows_all, rows_more, rows_none}
use Rattle.chart_columns.proofs.limits.enter_rows.Goals as goal

pub loop-index-init : goal.loop-index-init
loop-index-init c = rows_none c.args.limits.now

pub loop-index-preserved : goal.loop-index-preserved
loop-index-preserved c =
    rows_more c.args.rows.now c.loop-index.index _ c.args.limits.now c.loop-index.limits c.enter_marks.new.limits
    c.marks_of-marks.result c.loop-index-test.true c.marks_of-marks.ensures c.loop-index.invariant
    c.enter_marks.ensures

pub returns : goal.returns
returns c =
    let end : length c.args.rows.now ≤ c.loop-index.index = omega arith in
    rows_all c.args.rows.now c.loop-index.index c.args.limits.now c.loop-index.limits end c.loop-index.invariant
