-- The command `check`: whether a trace is a history of the core. (This project's own choice.)
use Rattle.std.specs.Prelude.{◌≡◌, ℕ, Bool, true, false, List, [], Option, length, reverse, All}
use Rattle.elf_image.specs.Image.{ProgramImage}
use Rattle.events.specs.{declared.event.Event.Event}
use Rattle.event_text.specs.{declared.head.TraceHead.TraceHead, Contents.TraceContent}
use Rattle.event_text.specs.declared.head.TraceHead.TheVariants.{First, Later}
use Rattle.event_text.specs.Trace.{trace_text, AreWithin, IsHead, IsRefusedAt}
use Rattle.smt_model.specs.{Rules.is_legal, Setup.Setup, Setup.is_accepted}
use Rattle.core_state.specs.{Setup.setup_of, View.CoreView}
use Rattle.smt_core.specs.Shown.{Shown}
use Rattle.history_check.specs.Checking.{IsFirstBroken}
use Rattle.text_fields.specs.{Printing.Prints}
use Rattle.sim_inputs.specs.{declared.settings.Settings.Settings}
use Rattle.report_lines.specs.Lines.{status_number}
use Rattle.command_parts.specs.{declared.refused.Refused.Refused}
use Rattle.command_parts.specs.declared.refused.Refused.TheVariants as refused
use Rattle.address_labels.specs.Labels.{Marks}
use Rattle.core_commands.specs.Wanted.{Wants}
use Rattle.core_commands.specs.Account.{IsAccount, statuses_of}

-- The text is this trace, with each of its events in range.
pub record IsTraceOf (text : List ℕ) (trace : TraceContent) : Type 0 where
  pub is_head : IsHead trace.head
  pub is_text : text ≡ trace_text trace.head trace.events
  pub in_range : AreWithin trace.head trace.events

-- The core that a trace is of. A trace of a later version says its sizes itself, and the settings
-- only how much memory there is; one of version 1 doesn't, and they are the settings'.
abbrev pub setup_by : Settings → ProgramImage → TraceHead → Setup
setup_by settings image First = setup_of image settings.config
setup_by settings image (Later version sizes) = record {
  image = image;
  harts = sizes.harts;
  extra = sizes.extra;
  queue = sizes.queue;
  roles = sizes.roles;
}

-- The text is some trace, and this holds of its events in the core that it is of.
abbrev pub OfEvents : Settings → ProgramImage → List ℕ → (Setup → List Event → Type 0) → Type 0
OfEvents settings image text P =
    (trace : TraceContent) × IsTraceOf text trace × P (setup_by settings image trace.head) trace.events

-- No core of this setup may have so many events.
abbrev pub AreTooMany : Setup → List Event → Type 0
AreTooMany setup events = is_accepted setup (length events) ≡ false

-- A core of this setup may have so many events, and they are a legal history of it.
abbrev pub AreHistory : Setup → List Event → Type 0
AreHistory setup events =
    (is_accepted setup (length events) ≡ true) × is_legal setup (reverse events)

-- When each refusal comes: the lines of the trace are looked at first, then the sizes and the number
-- of events, then each event. The output is refused only behind them. Of memory nothing is said.
abbrev pub IsCheckRefusal : Settings → ProgramImage → List ℕ → Refused → Type 0
IsCheckRefusal settings image trace refused.Config = OfEvents settings image trace AreTooMany
IsCheckRefusal settings image trace (refused.Trace line rule) = IsRefusedAt trace line rule
IsCheckRefusal settings image trace (refused.Event index rule) =
    OfEvents settings image trace (λ setup events. IsFirstBroken setup events index rule)
IsCheckRefusal settings image trace refused.Memory = Unit {0}
IsCheckRefusal settings image trace refused.Output = OfEvents settings image trace AreHistory
IsCheckRefusal settings image trace _ = ⊥

-- The parts of it: what the reading of a trace answers, and the following of its events.
abbrev pub IsTraceRefusal : List ℕ → Refused → Type 0
IsTraceRefusal trace (refused.Trace line rule) = IsRefusedAt trace line rule
IsTraceRefusal trace refused.Memory = Unit {0}
IsTraceRefusal trace _ = ⊥

abbrev pub IsHistoryRefusal : Setup → List Event → Refused → Type 0
IsHistoryRefusal setup events refused.Config = AreTooMany setup events
IsHistoryRefusal setup events (refused.Event index rule) = IsFirstBroken setup events index rule
IsHistoryRefusal setup events refused.Memory = Unit {0}
IsHistoryRefusal setup events _ = ⊥

-- What the command comes to. The trace's events, the last of them first, are the history of the core
-- that it is of, with room for just so many: one of those that may be shown, so
-- its history is legal. What was printed is what is printed of this core, which nobody has asked; the
-- exit status is that of its harts.
pub record CheckComesTo (settings : Settings) (image : ProgramImage) (trace : List ℕ)
    (wanted : Wants) (marks : Marks) (old new : Option (List ℕ)) (exit_status : ℕ) : Type 0 where
  pub read : TraceContent
  pub is_trace : IsTraceOf trace read
  pub core : CoreView
  pub setup : core.setup ≡ setup_by settings image read.head
  pub limit : core.limit ≡ length read.events
  pub past : core.past ≡ reverse read.events
  pub accepted : is_accepted core.setup core.limit ≡ true
  pub shown : Shown core
  pub printed : Prints old new (IsAccount core [] wanted marks)
  pub harts : exit_status ≡ status_number (statuses_of core)
