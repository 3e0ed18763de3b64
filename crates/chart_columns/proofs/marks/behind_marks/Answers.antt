use Rattle.std.proofs.Common.{◌≤◌, length, arith}
use Rattle.chart_columns.proofs.Raising.{behind_all, behind_more, behind_none}
use Rattle.chart_columns.proofs.marks.behind_marks.Goals as goal

pub loop-index-init : goal.loop-index-init
loop-index-init c = behind_none c.args.place

pub loop-index-preserved : goal.loop-index-preserved
loop-index-preserved c =
    rw c.greater-latest.ensures (behind_more c.args.place c.args.marks.now c.loop-index.index _ c.loop-index.latest
    c.behind.result c.loop-index-test.true c.loop-index.invariant c.behind.ensures)

pub returns : goal.returns
returns c =
    let end : length c.args.marks.now ≤ c.loop-index.index = omega arith in
    behind_all c.args.place c.args.marks.now c.loop-index.index c.loop-index.latest end c.loop-index.invariant
