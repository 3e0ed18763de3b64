use Rattle.std.proofs.Common.{◌∙◌}
use Rattle.history_counts.proofs.Rows.{mispredicted_rows}
use Rattle.history_counts.proofs.instructions.count_mispredicted.Goals as goal

pub returns : goal.returns
returns c =
    c.count_mispredicted_rows.ensures ∙ mispredicted_rows c.args.events.now c.args.rows.now c.requires
