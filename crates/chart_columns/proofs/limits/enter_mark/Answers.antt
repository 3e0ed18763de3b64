use Rattle.chart_columns.proofs.Raising.{raised_one, raised_skip}
use Rattle.chart_columns.proofs.limits.enter_mark.Goals as goal

pub returns-in-Some : goal.returns-in-Some
returns-in-Some c =
    rw c.in-Some.is (raised_one c.in-Some.place c.behind_marks.result c.args.marks.now c.args.limits.now
    c.raise.new.limits c.behind_marks.ensures c.raise.ensures.count c.raise.ensures.each)

pub returns-in_default : goal.returns-in_default
returns-in_default c = rw c.in_default.is (raised_skip c.args.marks.now c.args.limits.now)
