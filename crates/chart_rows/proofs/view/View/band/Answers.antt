use Rattle.std.proofs.Common.{◌≤◌, ◌+◌, ◌*◌, arith}
use Rattle.chart_rows.proofs.Banded.{begins_inside}
use Rattle.chart_rows.proofs.view.View.band.Goals as goal

pub returns : goal.returns
returns c one_of =
    let inside : c.args.self.now.from + c.args.number * c.args.columns ≤ c.args.self.now.to =
    begins_inside c.args.self.now c.args.columns c.args.number one_of in
    grind (arith, inside)
