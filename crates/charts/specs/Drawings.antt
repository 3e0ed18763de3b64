-- What a chart is drawn of as text, and how. (This project's own choice.)
use Rattle.std.specs.Prelude.{ℕ, List, Option}
use Rattle.address_labels.specs.{Labels.Marks, Labels.marks_of}
use Rattle.events.specs.declared.event.Event.{Event}
use Rattle.chart_rows.specs.{declared.row.Row.Row, declared.view.View.View}
use Rattle.chart_counters.specs.declared.counters.Counters.{Counters}
use Rattle.chart_registers.specs.declared.registers.Registers.{Registers}
use Rattle.charts.specs.declared.text.TextChart.{TextChart}

pub record Drawing : Type 0 where
  -- the rows of a history, with columns where the places of events were
  pub rows : List Row
  -- its events, the oldest first
  pub events : List Event
  -- the column of each event, and nothing where each has one of its own
  pub columns : List ℕ
  -- the columns and rows that are drawn
  pub view : View
  -- how many characters a line has
  pub width : ℕ
  -- how many harts the core has
  pub harts : ℕ
  -- what is wanted beside the pcs
  pub marks : Marks
  -- what is counted behind each event, from the first in the first column that is drawn on; nothing where it isn't wanted
  pub counters : List Counters
  -- the registers of each instruction, by number; nothing where they aren't wanted
  pub registers : List (Option Registers)

abbrev pub drawing_of : TextChart → Drawing
drawing_of chart = record {
  rows = chart.rows.now;
  events = chart.events.now;
  columns = chart.columns.now;
  view = chart.view;
  width = chart.width;
  harts = chart.harts;
  marks = marks_of chart.labels;
  counters = chart.counters.now;
  registers = chart.registers.now;
}
