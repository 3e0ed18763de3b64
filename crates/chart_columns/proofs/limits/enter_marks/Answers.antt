use Rattle.std.proofs.Common.{◌≤◌, length, arith}
use Rattle.chart_columns.proofs.Raising.{raised_all, raised_more, raised_none}
use Rattle.chart_columns.proofs.limits.enter_marks.Goals as goal

pub loop-index-init : goal.loop-index-init
loop-index-init c = raised_none c.args.marks.now c.args.limits.now

pub loop-index-preserved : goal.loop-index-preserved
loop-index-preserved c =
    raised_more c.args.marks.now c.loop-index.index _ c.args.limits.now c.loop-index.limits c.enter_mark.new.limits
    c.loop-index-test.true c.loop-index.invariant c.enter_mark.ensures

pub returns : goal.returns
returns c =
    let end : length c.args.marks.now ≤ c.loop-index.index = omega arith in
    raised_all c.args.marks.now c.loop-index.index c.args.limits.now c.loop-index.limits end c.loop-index.invariant
