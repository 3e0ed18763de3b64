use Rattle.std.proofs.Common.{◌∙◌, ap, length, sym}
use Rattle.std.proofs.lemmas.List.{length-replicate}
use Rattle.chart_columns.proofs.Raising.{limits_of}
use Rattle.chart_columns.proofs.rounds.fill.Goals as goal

pub returns : goal.returns
returns c =
    c.number_rounds.ensures c.args.rows.now (limits_of c.args.rows.now (length c.args.events.now) c.args.table.now
    c.enter_rows.new.limits c.requires.noughts c.enter_rows.ensures)
