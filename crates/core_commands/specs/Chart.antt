-- The command `chart`: the pipeline of a trace, drawn. (This project's own choice.)
use Rattle.std.specs.Prelude.{◌≡◌, ◌≤◌, ℕ, Bool, true, false, ◌&&◌, nat_le, nat_lt, if◌then◌else◌}
use Rattle.std.specs.Prelude.{List, [], length, map, reverse, Option, Some, None, is_some, option_map}
use Rattle.std.specs.Io.KnownBytes.{Appends}
use Rattle.elf_image.specs.Image.{ProgramImage}
use Rattle.sim_inputs.specs.{declared.line.ChartCommand.ChartCommand, declared.line.Columns.Columns}
use Rattle.sim_inputs.specs.declared.line.Columns.TheVariants.{Events, Rounds}
use Rattle.sim_inputs.specs.{declared.settings.Settings.Settings}
use Rattle.command_parts.specs.{declared.refused.Refused.Refused}
use Rattle.command_parts.specs.declared.refused.Refused.TheVariants as refused
use Rattle.smt_model.specs.Setup.{Setup}
use Rattle.events.specs.{declared.event.Event.Event}
use Rattle.address_labels.specs.Labels.{marks_where}
use Rattle.sim_inputs.specs.Files.{written_chart}
use Rattle.chart_rows.specs.{Rows.AreRows, Views.view_of}
use Rattle.charts.specs.{Text.chart_text, Drawings.Drawing, Pictures.last_pictured}
use Rattle.chart_rows.specs.{declared.row.Row.Row, declared.view.View.View}
use Rattle.chart_columns.specs.{Rounds.AreColumns, Tables.head, Tables.last, Tables.placed, Tables.placed_view}
use Rattle.chart_counters.specs.{declared.counters.Counters.Counters, Counters.AreCountersBetween}
use Rattle.chart_registers.specs.{declared.registers.Registers.Registers, Registers.AreRegisters}
use Rattle.symbols.specs.Tables.{Table, table_of}
use Rattle.core_commands.specs.declared.chart_ends.Drawn.{Drawn}
use Rattle.core_commands.specs.ChartEnds.{AreEnds, IsEndRefusal}
use Rattle.core_commands.specs.Check.{IsCheckRefusal, OfEvents, AreHistory}

-- A core of so many harts has the one that is to be drawn.
abbrev pub hart_fits : ℕ → Option ℕ → Bool
hart_fits harts None = true
hart_fits harts (Some hart) = nat_lt hart harts

-- When a hart is refused that isn't there.
abbrev pub IsHartRefusal : ℕ → Option ℕ → Refused → Type 0
IsHartRefusal harts hart (refused.NoHart one) = (hart ≡ Some one) × (harts ≤ one)
IsHartRefusal harts hart _ = ⊥

-- What is drawn by columns: the columns of the events, which aren't listed where each has one of its own; the rows, with
-- columns where the places of events were; and the columns that are drawn.
pub record Sheet : Type 0 where
  pub columns : List ℕ
  pub rows : List Row
  pub view : View

-- The last event to which a picture of it wouldn't be too large, where it is.
abbrev pub last_drawable : Sheet → Option ℕ
last_drawable sheet = option_map (last sheet.columns) (last_pictured sheet.view sheet.rows)

abbrev pub IsTooLarge : ChartCommand → Sheet → ℕ → Type 0
IsTooLarge chart sheet place = (is_some chart.svg ≡ true) × (last_drawable sheet ≡ Some place)

-- Where a picture is wanted, it isn't too large.
abbrev pub Fits : ChartCommand → Sheet → Type 0
Fits chart sheet = is_some chart.svg ≡ true → last_drawable sheet ≡ None

-- What is drawn: the rows of a history, its events and the names of its program, of all harts or of the one that is
-- named.
pub record IsDrawnOf (setup : Setup) (events : List Event) (chart : ChartCommand) (names : Table)
    (drawn : Drawn) : Type 0 where
  pub rows : AreRows (reverse events) drawn.rows.now
  pub events_are : drawn.events.now ≡ events
  pub hart : drawn.hart ≡ chart.hart
  pub names_are : table_of drawn.names.now ≡ names

-- The columns that are wanted of it, by which its rows are placed: each event's own, or rounds.
abbrev pub AreColumnsAs : Columns → Drawn → List ℕ → Type 0
AreColumnsAs Events drawn columns = columns ≡ []
AreColumnsAs Rounds drawn columns = AreColumns drawn.rows.now drawn.events.now columns

abbrev pub rows_as : Columns → List ℕ → List Row → List Row
rows_as Events columns rows = rows
rows_as Rounds columns rows = map (placed columns) rows

pub record IsSheetOf (chart : ChartCommand) (drawn : Drawn) (view : View) (sheet : Sheet) : Type 0 where
  pub columns_are : AreColumnsAs chart.columns drawn sheet.columns
  pub rows_are : sheet.rows ≡ rows_as chart.columns sheet.columns drawn.rows.now
  pub view_is : sheet.view ≡ placed_view sheet.columns view

-- What is drawn of it from one event to another; and this holds of that, between the two ends of the chart.
abbrev pub view_in : Drawn → ℕ → ℕ → View
view_in drawn from to = view_of from to drawn.hart (length drawn.events.now)

abbrev pub OfSheet : ChartCommand → Drawn → View → (Sheet → Type 0) → Type 0
OfSheet chart drawn view P = (sheet : Sheet) × IsSheetOf chart drawn view sheet × P sheet

abbrev pub BetweenEnds : ChartCommand → Drawn → (Sheet → Type 0) → Type 0
BetweenEnds chart drawn P =
    (from : ℕ) × (to : ℕ) × AreEnds chart drawn from to × OfSheet chart drawn (view_in drawn from to) P

-- The numbers behind each event of the columns that are drawn, and the registers of each instruction, where they are
-- wanted.
abbrev pub are_counted : ChartCommand → View → Bool
are_counted chart view = chart.counters && nat_le view.from view.to

abbrev pub AreCountersIf : Bool → Setup → List Event → List ℕ → View → List Counters → Type 0
AreCountersIf false setup events columns view counters = counters ≡ []
AreCountersIf true setup events columns view counters =
    AreCountersBetween setup events (head columns view.from) (last columns view.to) counters

abbrev pub AreRegistersIf : Bool → List Event → List (Option Registers) → Type 0
AreRegistersIf false events registers = registers ≡ []
AreRegistersIf true events registers = AreRegisters (reverse events) registers

-- All of it as it is drawn in text.
pub record IsDrawing (chart : ChartCommand) (setup : Setup) (drawn : Drawn) (sheet : Sheet) (drawing : Drawing)
    : Type 0 where
  pub rows_are : drawing.rows ≡ sheet.rows
  pub events_are : drawing.events ≡ drawn.events.now
  pub columns_are : drawing.columns ≡ sheet.columns
  pub view_is : drawing.view ≡ sheet.view
  pub width_is : drawing.width ≡ chart.width
  pub harts_are : drawing.harts ≡ setup.harts
  pub marks_are : drawing.marks ≡ marks_where chart.names (table_of drawn.names.now) None
  pub counters_are : AreCountersIf (are_counted chart sheet.view) setup drawn.events.now sheet.columns sheet.view
      drawing.counters
  pub registers_are : AreRegistersIf chart.registers drawn.events.now drawing.registers

-- What is printed of it: all of its text, unless it goes into a file.
abbrev pub printed_chart : ChartCommand → List ℕ → List ℕ
printed_chart chart text = if is_some (written_chart chart) then [] else text

-- It can be drawn, and was.
pub record IsPrinted (chart : ChartCommand) (setup : Setup) (drawn : Drawn) (old new : Option (List ℕ)) (sheet : Sheet)
    : Type 0 where
  pub fits : Fits chart sheet
  pub drawing : Drawing
  pub is_drawing : IsDrawing chart setup drawn sheet drawing
  pub printed : Appends old new (printed_chart chart (chart_text drawing))

-- The text of it, where that is what is drawn.
pub record IsTextOf (chart : ChartCommand) (setup : Setup) (drawn : Drawn) (text : List ℕ) (sheet : Sheet)
    : Type 0 where
  pub fits : Fits chart sheet
  pub drawing : Drawing
  pub is_drawing : IsDrawing chart setup drawn sheet drawing
  pub is : is_some (written_chart chart) ≡ false → text ≡ chart_text drawing

-- The refusals behind the hart's: of its ends, and of a picture.
abbrev pub IsDrawingRefusal : ChartCommand → Drawn → Refused → Type 0
IsDrawingRefusal chart drawn (refused.Picture place) =
    BetweenEnds chart drawn (λ sheet. IsTooLarge chart sheet place)
IsDrawingRefusal chart drawn refused.Memory = Unit {0}
IsDrawingRefusal chart drawn reason = IsEndRefusal chart drawn reason

-- The trace is that of a history of the core, and this holds of what is drawn of it.
abbrev pub OfDrawn : Settings → ProgramImage → List ℕ → ChartCommand → Table → (Setup → Drawn → Type 0) → Type 0
OfDrawn settings image trace chart names P = OfEvents settings image trace (λ setup events. AreHistory setup events
    × ((drawn : Drawn) × IsDrawnOf setup events chart names drawn × P setup drawn))

-- When each refusal comes: what `check` refuses comes first.
abbrev pub IsChartRefusal : Settings → ProgramImage → List ℕ → ChartCommand → Table → Refused → Type 0
IsChartRefusal settings image trace chart names (refused.NoHart one) =
    OfEvents settings image trace (λ setup events. AreHistory setup events × (setup.harts ≤ one))
    × (chart.hart ≡ Some one)
IsChartRefusal settings image trace chart names (refused.Picture last) =
    OfDrawn settings image trace chart names (λ setup drawn. IsDrawingRefusal chart drawn (refused.Picture last))
IsChartRefusal settings image trace chart names (refused.NamesNothing option) =
    OfDrawn settings image trace chart names (λ setup drawn. IsEndRefusal chart drawn (refused.NamesNothing option))
IsChartRefusal settings image trace chart names (refused.NamesSeveral option) =
    OfDrawn settings image trace chart names (λ setup drawn. IsEndRefusal chart drawn (refused.NamesSeveral option))
IsChartRefusal settings image trace chart names (refused.NeverFetched option) =
    OfDrawn settings image trace chart names (λ setup drawn. IsEndRefusal chart drawn (refused.NeverFetched option))
IsChartRefusal settings image trace chart names (refused.Turned from to) =
    OfDrawn settings image trace chart names (λ setup drawn. IsEndRefusal chart drawn (refused.Turned from to))
IsChartRefusal settings image trace chart names reason = IsCheckRefusal settings image trace reason

-- What the command comes to: the trace is that of a history of the core, which has the hart that is to
-- be drawn, and what is to be drawn begins and ends somewhere in it, and isn't too large for a picture; what was printed
-- is the text of that, or nothing, where it goes into a file; and the exit status is 0.
pub record ChartComesTo (settings : Settings) (image : ProgramImage) (trace : List ℕ)
    (chart : ChartCommand) (names : Table) (old new : Option (List ℕ)) (exit_status : ℕ) : Type 0 where
  pub history : OfEvents settings image trace
      (λ setup events. AreHistory setup events × (hart_fits setup.harts chart.hart ≡ true))
  pub drawn : OfDrawn settings image trace chart names
      (λ setup drawn. BetweenEnds chart drawn (IsPrinted chart setup drawn old new))
  pub zero : exit_status ≡ 0
