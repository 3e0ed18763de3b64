-- The command `chart`: the events of a trace that was checked are a history of some core.
use Rattle.std.specs.Prelude.{◌≡◌, ◌⊎◌, ℕ, Bool, List, [], reverse, true, false, if◌then◌else◌, is_some, Result, Ok, Err}
use Rattle.std.specs.Prelude.{IfOk, OnOk}
use Rattle.std.specs.Io.KnownBytes.{Appends}
use Rattle.std.proofs.lemmas.Bool.{cases_Bool}
use Rattle.charts.specs.Text.{chart_text}
use Rattle.sim_inputs.specs.Files.{written_chart}
use Rattle.std.proofs.Common.{refl, sym, subst, ap, ◌∙◌, inl, inr, Option}
use Rattle.elf_image.specs.Image.{ProgramImage}
use Rattle.event_text.specs.{Contents.TraceContent}
use Rattle.smt_model.specs.{Rules.is_legal, Setup.Setup, declared.config.Config.Config}
use Rattle.core_state.specs.Setup.{setup_of}
use Rattle.event_text.specs.declared.head.TraceHead.{TraceHead}
use Rattle.core_state.specs.View.{CoreView}
use Rattle.smt_core.specs.Shown.{Shown}
use Rattle.chart_rows.specs.Rows.{AreRows, AreHistory as AreSomeHistory}
use Rattle.sim_inputs.specs.declared.settings.Settings.{Settings}
use Rattle.sim_inputs.specs.declared.line.ChartCommand.{ChartCommand}
use Rattle.symbols.specs.Tables.{Table, table_of}
use Rattle.command_parts.specs.declared.refused.Refused.{Refused}
use Rattle.command_parts.specs.declared.refused.Refused.TheVariants as refused
use Rattle.core_commands.specs.declared.chart_ends.Drawn.{Drawn}
use Rattle.core_commands.specs.Check.{IsTraceOf, AreHistory, setup_by}
use Rattle.core_commands.specs.Chart.{hart_fits, BetweenEnds, IsDrawnOf, OfDrawn, IsDrawingRefusal, IsChartRefusal}
use Rattle.core_commands.specs.Chart.{ChartComesTo, IsPrinted, IsTextOf, printed_chart, view_in, Fits, IsSheetOf, IsTooLarge}
use Rattle.core_commands.specs.Chart.{AreCountersIf, AreRegistersIf, are_counted}
use Rattle.core_commands.specs.declared.{chart_columned.Columned.Columned, chart_told.Told.Told}
use Rattle.core_commands.specs.Drawing.{drawing_with, sheet_of}
use Rattle.events.specs.declared.event.Event.{Event}
use Rattle.core_commands.specs.ChartEnds.{AreEnds, IsEndRefusal}
use Rattle.core_commands.proofs.OfCheck.{following}

pub history_of : (settings : Settings) (image : ProgramImage) (read : TraceContent) (core : CoreView)
    → core ≡ following settings image read → Shown core → AreSomeHistory read.events
history_of settings image read core whole shown = (
  core.setup,
  subst (λ past. is_legal core.setup past) (ap (λ (u : CoreView). u.past) whole) shown.legal,
)

-- ---- What is drawn of it

-- Of an end's fault nothing else is refused.
neither : {A : Type 0} → ⊥ ⊎ (A × ⊥) → ⊥
neither (inl is) = is
neither (inr (first, is)) = is

pub fits_of : (settings : Settings) (image : ProgramImage) (head other : TraceHead) (config : Config) (hart : Option ℕ)
    → ((program : ProgramImage) → setup_of program config ≡ setup_by settings program other) → other ≡ head
    → hart_fits config.harts hart ≡ true → hart_fits (setup_by settings image head).harts hart ≡ true
fits_of settings image head other config hart same is fits =
    subst (λ (n : ℕ). hart_fits n hart ≡ true)
    (ap (λ (s : Setup). s.harts) (same image ∙ ap (setup_by settings image) is)) fits

pub drawn_of : (settings : Settings) (image : ProgramImage) (trace : List ℕ) (chart : ChartCommand) (names : Table)
    (read : TraceContent) (drawn : Drawn) → AreRows (reverse read.events) drawn.rows.now
    → drawn.events.now ≡ read.events → drawn.hart ≡ chart.hart → table_of drawn.names.now ≡ names
    → IsDrawnOf (setup_by settings image read.head) read.events chart names drawn
drawn_of settings image trace chart names read drawn rows events hart same =
    record { rows = rows; events_are = events; hart = hart; names_are = same }

printed_of : (chart : ChartCommand) (text drawn : List ℕ) (old new : Option (List ℕ))
    → (is_some (written_chart chart) ≡ false → text ≡ drawn) → Appends old new (printed_chart chart text)
    → Appends old new (printed_chart chart drawn)
printed_of chart text drawn old new is printed =
    elim (cases_Bool (is_some (written_chart chart))) [
      | inl written ↦
          rw written (subst (λ (b : Bool). Appends old new (if b then [] else text)) written printed)
      | inr unwritten ↦
          rw unwritten (subst (λ (t : List ℕ). Appends old new t) (is unwritten)
          (subst (λ (b : Bool). Appends old new (if b then [] else text)) unwritten printed))
    ]

-- ---- What is drawn by columns

module _ (chart : ChartCommand) (setup : Setup) (drawn : Drawn) (from to : ℕ) (ends : AreEnds chart drawn from to)
    (columned : Columned) (is_sheet : IsSheetOf chart drawn (view_in drawn from to) (sheet_of drawn columned)) where
  pub too_large_between : (place : ℕ) → IsTooLarge chart (sheet_of drawn columned) place
      → IsDrawingRefusal chart drawn (refused.Picture place)
  too_large_between place is = (from, to, ends, (sheet_of drawn columned, is_sheet, is))

  pub text_between : (told : Told) (events : List Event) → drawn.events.now ≡ events
      → Fits chart (sheet_of drawn columned) → told.harts ≡ setup.harts
      → AreCountersIf (are_counted chart columned.view) setup events columned.columns columned.view told.counters.items
      → AreRegistersIf chart.registers events told.registers.items
      → (text : List ℕ)
      → (is_some (written_chart chart) ≡ false → text ≡ chart_text (drawing_with chart drawn columned told))
      → BetweenEnds chart drawn (IsTextOf chart setup drawn text)
  text_between told events same fits harts counters registers text is = (
    from,
    to,
    ends,
    (
      sheet_of drawn columned,
      is_sheet,
      record {
        fits = fits;
        drawing = drawing_with chart drawn columned told;
        is_drawing = record {
          rows_are = refl;
          events_are = refl;
          columns_are = refl;
          view_is = refl;
          width_is = refl;
          harts_are = harts;
          marks_are = refl;
          counters_are = subst
              (λ all. AreCountersIf (are_counted chart columned.view) setup all columned.columns columned.view
              told.counters.items)
              (sym same) counters;
          registers_are =
              subst (λ all. AreRegistersIf chart.registers all told.registers.items) (sym same) registers;
        };
        is = is;
      },
    ),
  )

-- A trace of a history of the core, and what is drawn of it.
module _ (settings : Settings) (image : ProgramImage) (trace : List ℕ) (chart : ChartCommand) (names : Table)
    (read : TraceContent) (is_trace : IsTraceOf trace read)
    (history : AreHistory (setup_by settings image read.head) read.events) (drawn : Drawn)
    (is_drawn : IsDrawnOf (setup_by settings image read.head) read.events chart names drawn) where
  of_drawn : (P : Setup → Drawn → Type 0) → P (setup_by settings image read.head) drawn
      → OfDrawn settings image trace chart names P
  of_drawn P holds = (read, is_trace, (history, (drawn, is_drawn, holds)))

  pub drawing_refusal : (reason : Refused) → IsDrawingRefusal chart drawn reason
      → IsChartRefusal settings image trace chart names reason
  drawing_refusal (refused.Picture last) is =
      of_drawn (λ setup one. IsDrawingRefusal chart one (refused.Picture last)) is
  drawing_refusal refused.Memory is = tt
  drawing_refusal (refused.NamesNothing option) is =
      of_drawn (λ setup one. IsEndRefusal chart one (refused.NamesNothing option)) is
  drawing_refusal (refused.NamesSeveral option) is =
      of_drawn (λ setup one. IsEndRefusal chart one (refused.NamesSeveral option)) is
  drawing_refusal (refused.NeverFetched option) is =
      of_drawn (λ setup one. IsEndRefusal chart one (refused.NeverFetched option)) is
  drawing_refusal (refused.Turned from to) is = of_drawn (λ setup one. IsEndRefusal chart one (refused.Turned from to)) is
  drawing_refusal (refused.Image number) is = absurd (neither is)
  drawing_refusal refused.Config is = absurd (neither is)
  drawing_refusal refused.Harts is = absurd (neither is)
  drawing_refusal (refused.Script number) is = absurd (neither is)
  drawing_refusal (refused.Order index) is = absurd (neither is)
  drawing_refusal (refused.Step index why) is = absurd (neither is)
  drawing_refusal (refused.Trace line rule) is = absurd (neither is)
  drawing_refusal refused.Version is = absurd (neither is)
  drawing_refusal (refused.Event index rule) is = absurd (neither is)
  drawing_refusal (refused.Prediction index) is = absurd (neither is)
  drawing_refusal (refused.Register index) is = absurd (neither is)
  drawing_refusal (refused.NoUnit kind) is = absurd (neither is)
  drawing_refusal (refused.Limit least) is = absurd (neither is)
  drawing_refusal (refused.NoHart hart) is = absurd (neither is)
  drawing_refusal (refused.Lines number fault) is = absurd (neither is)
  drawing_refusal (refused.Watch why) is = absurd (neither is)
  drawing_refusal (refused.Condition why) is = absurd (neither is)
  drawing_refusal refused.ManyWatched is = absurd (neither is)
  drawing_refusal (refused.NoWord bytes) is = absurd (neither is)
  drawing_refusal (refused.NoOutcome number) is = absurd (neither is)
  drawing_refusal refused.NotStuck is = absurd (neither is)
  drawing_refusal refused.LongStory is = absurd (neither is)
  drawing_refusal refused.NoAnswer is = absurd (neither is)
  drawing_refusal (refused.Litmus place fault) is = absurd (neither is)
  drawing_refusal refused.NothingToDraw is = absurd (neither is)
  drawing_refusal refused.Thread is = absurd (neither is)
  drawing_refusal refused.File is = absurd (neither is)
  drawing_refusal refused.Output is = absurd (neither is)

  pub comes_to : (answer : Result ℕ Refused) (text : List ℕ) (old new : Option (List ℕ))
      → hart_fits (setup_by settings image read.head).harts chart.hart ≡ true
      → BetweenEnds chart drawn (IsTextOf chart (setup_by settings image read.head) drawn text)
      → OnOk answer (Appends old new (printed_chart chart text))
      → IfOk answer (λ status. status ≡ 0)
      → IfOk answer (ChartComesTo settings image trace chart names old new)
  comes_to (Err why) text old new fits is printed zero = tt
  comes_to (Ok status) text old new fits (from, to, ends, (sheet, is_sheet, is)) printed zero = record {
    history = (read, is_trace, (history, fits));
    drawn = of_drawn (λ setup one. BetweenEnds chart one (IsPrinted chart setup one old new)) (
      from,
      to,
      ends,
      (
        sheet,
        is_sheet,
        record {
          fits = is.fits;
          drawing = is.drawing;
          is_drawing = is.is_drawing;
          printed = printed_of chart text (chart_text is.drawing) old new is.is printed;
        },
      ),
    );
    zero = zero;
  }
