use Rattle.std.proofs.Common.{refl, subst}
use Rattle.core_commands.specs.Chart.{IsSheetOf, IsDrawing, IsTextOf, view_in}
use Rattle.core_commands.specs.Drawing.{drawing_with, setup_in, sheet_of}
use Rattle.core_commands.proofs.drawing.made_of.Goals as goal

pub returns-clause-text : goal.returns-clause-text
returns-clause-text c =
    let chart = c.args.chart.now in
    let drawn = c.args.drawn.now in
    let sheet = sheet_of drawn c.in_ok-columned.columned in
    let drawing = drawing_with chart drawn c.in_ok-columned.columned c.in_ok-told.told in
    let is_drawing : IsDrawing chart (setup_in c.args.traced.now) drawn sheet drawing =
    record {
      rows_are = refl;
      events_are = refl;
      columns_are = refl;
      view_is = refl;
      width_is = refl;
      harts_are = c.in_ok-told.ensures.harts;
      marks_are = refl;
      counters_are = rw c.requires.events c.in_ok-told.ensures.counters;
      registers_are = rw c.requires.events c.in_ok-told.ensures.registers;
    } in
    let placed : IsSheetOf chart drawn (view_in drawn c.in_ok-from.from c.in_ok-from.to) sheet =
    subst (λ v. IsSheetOf chart drawn v sheet) c.new-view.ensures c.in_ok-columned.ensures.sheet in
    let text : IsTextOf chart (setup_in c.args.traced.now) drawn c.in_ok-made.made.text.items sheet =
    record {
      fits = c.in_default.ensures.none;
      drawing = drawing;
      is_drawing = is_drawing;
      is = c.in_ok-made.ensures.text;
    } in (c.in_ok-from.from, c.in_ok-from.to, c.in_ok-from.ensures.ends, (sheet, placed, text))
