use Rattle.std.proofs.Common.{refl}
use Rattle.symbols.specs.Tables.{table_of}
use Rattle.core_commands.specs.declared.chart_ends.Drawn.{Drawn}
use Rattle.core_commands.proofs.OfChart.{drawing_refusal, comes_to, drawn_of, fits_of}
use Rattle.core_commands.proofs.chart.perform_chart.Goals as goal

pub returns-in-Err-clause-refused : goal.returns-in-Err-clause-refused
returns-in-Err-clause-refused g c =
    let drawn : Drawn = record {
      rows = c.as_slice.result;
      events = c.events.result;
      hart = c.in_ok-hart_in.field-0;
      names = c.args.names;
    } in
    drawing_refusal c.args.settings.now c.args.image.now c.args.trace.now c.args.chart.now (table_of c.args.names.now)
    c.in_ok-trace.trace c.in_ok-trace.ensures.trace c.in_ok-rows.ensures.history drawn
    (drawn_of c.args.settings.now c.args.image.now c.args.trace.now c.args.chart.now (table_of c.args.names.now)
    c.in_ok-trace.trace drawn (rw c.as_slice.ensures.value c.in_ok-rows.ensures.rows) c.events.ensures
    c.in_ok-hart_in.ensures.same refl)
    c.in-Err.refused c.in-Err.ensures.refused

pub returns-clause-ended : goal.returns-clause-ended
returns-clause-ended g c =
    let drawn : Drawn = record {
      rows = c.as_slice.result;
      events = c.events.result;
      hart = c.in_ok-hart_in.field-0;
      names = c.args.names;
    } in
    comes_to c.args.settings.now c.args.image.now c.args.trace.now c.args.chart.now (table_of c.args.names.now)
    c.in_ok-trace.trace c.in_ok-trace.ensures.trace c.in_ok-rows.ensures.history drawn
    (drawn_of c.args.settings.now c.args.image.now c.args.trace.now c.args.chart.now (table_of c.args.names.now)
    c.in_ok-trace.trace drawn (rw c.as_slice.ensures.value c.in_ok-rows.ensures.rows) c.events.ensures
    c.in_ok-hart_in.ensures.same refl)
    c.put_chart.result c.in-Ok.made.text.items (g.W.Write.contents c.args.context.now.out)
    (g.W.Write.contents c.put_chart.new.out)
    (fits_of c.args.settings.now c.args.image.now _ _ c.config_by-harts.result c.args.chart.now.hart
    c.config_by-harts.ensures c.head.ensures c.in_ok-hart_in.ensures.there)
    c.in-Ok.ensures.text c.put_chart.ensures.printed c.put_chart.ensures.zero
