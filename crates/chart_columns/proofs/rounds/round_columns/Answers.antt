use Rattle.std.proofs.Common.{◌∙◌, sym}
use Rattle.std.proofs.lemmas.List.{with_items_is}
use Rattle.chart_columns.proofs.rounds.round_columns.Goals as goal

pub returns : goal.returns
returns c =
    let back = with_items_is c.resize.new.self c.fill.new.table (c.fill.ensures.count ∙ sym c.in_ok-resize.ensures.len) in
    rw back c.fill.ensures
