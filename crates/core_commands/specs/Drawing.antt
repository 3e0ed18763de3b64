-- A chart as it is drawn: what the parts of it are in the code's own values. (This project's own choice.)
use Rattle.std.specs.Prelude.{ℕ, List, ◌++◌, Option, Some, None, Vec}
use Rattle.std.specs.Option.{option_map_or}
use Rattle.chart_rows.specs.declared.row.Row.{Row}
use Rattle.charts.specs.Drawings.{Drawing}
use Rattle.symbols.specs.Tables.{table_of}
use Rattle.address_labels.specs.Labels.{marks_where}
use Rattle.smt_model.specs.Setup.{Setup}
use Rattle.sim_inputs.specs.declared.line.ChartCommand.{ChartCommand}
use Rattle.core_commands.specs.declared.chart_ends.Drawn.{Drawn}
use Rattle.core_commands.specs.declared.chart_columned.Columned.{Columned}
use Rattle.core_commands.specs.declared.chart_told.{Told.Told, Traced.Traced}
use Rattle.core_commands.specs.{Check.setup_by, Chart.Sheet}

-- The core that a trace is of.
abbrev pub setup_in : Traced → Setup
setup_in traced = setup_by traced.settings.now traced.image.now traced.trace.now.head

-- The rows that were placed, or else those that were not.
abbrev pub placed_or : {A : Type 0} → List Row → Option (Vec Row A) → List Row
placed_or rows placed = option_map_or (λ placed. placed.items) placed rows

-- What goes into the file of a chart, and into the second one where there are two.
abbrev pub texts_with : {A : Type 0} → List ℕ → Option (Vec ℕ A) → List ℕ
texts_with text None = text
texts_with text (Some beside) = text ++ beside.items

abbrev pub sheet_of : Drawn → Columned → Sheet
sheet_of drawn columned = record {
  columns = columned.columns;
  rows = placed_or drawn.rows.now columned.placed;
  view = columned.view;
}

abbrev pub drawing_with : ChartCommand → Drawn → Columned → Told → Drawing
drawing_with chart drawn columned told = record {
  rows = placed_or drawn.rows.now columned.placed;
  events = drawn.events.now;
  columns = columned.columns;
  view = columned.view;
  width = chart.width;
  harts = told.harts;
  marks = marks_where chart.names (table_of drawn.names.now) None;
  counters = told.counters.items;
  registers = told.registers.items;
}
