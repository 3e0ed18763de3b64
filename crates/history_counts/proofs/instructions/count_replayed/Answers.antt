use Rattle.std.proofs.Common.{◌∙◌, reverse}
use Rattle.history_counts.proofs.Rows.{of_replayed}
use Rattle.history_counts.proofs.instructions.count_replayed.Goals as goal

pub returns : goal.returns
returns c =
    c.count_replayed_rows.ensures ∙ of_replayed (reverse c.args.events.now) c.args.rows.now c.requires
