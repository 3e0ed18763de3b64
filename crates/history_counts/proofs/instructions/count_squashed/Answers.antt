use Rattle.std.proofs.Common.{◌∙◌}
use Rattle.history_counts.proofs.Rows.{squashed_rows}
use Rattle.history_counts.proofs.instructions.count_squashed.Goals as goal

pub returns : goal.returns
returns c =
    c.count_squashed_rows.ensures
    ∙ squashed_rows c.args.reason c.args.events.now c.args.rows.now c.requires
