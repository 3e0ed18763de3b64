use Rattle.std.proofs.Common.{subst}
use Rattle.core_commands.specs.Chart.{AreColumnsAs}
use Rattle.core_commands.proofs.OfColumns.{placed_by_fetch}
use Rattle.core_commands.proofs.chart_columned.placed_rows.Goals as goal

pub returns-in-Ok-clause-by_fetch : goal.returns-in-Ok-clause-by_fetch
returns-in-Ok-clause-by_fetch c =
    rw c.in-Ok.ensures
    (placed_by_fetch c.args.drawn.now.rows.now c.args.drawn.now.events.now c.args.columns.now c.requires.table
    (subst (λ w. AreColumnsAs w c.args.drawn.now c.args.columns.now) c.in-Rounds.is c.requires.columns) c.requires.rows
    c.requires.by_fetch)
