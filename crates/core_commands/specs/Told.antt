-- What is told of a trace that is refused, beside the refusal. (This project's own choice.)
use Rattle.std.specs.Prelude.{◌≡◌, ◌⊎◌, ℕ, ◌+◌, Bool, true, List, [], Option, length, reverse}
use Rattle.elf_image.specs.Image.{ProgramImage}
use Rattle.event_text.specs.{Contents.TraceContent, Heads.head_count}
use Rattle.smt_model.specs.{Setup.Setup, Setup.is_accepted}
use Rattle.core_state.specs.View.{CoreView}
use Rattle.smt_core.specs.Shown.{Shown}
use Rattle.history_check.specs.Checking.{IsFirstBroken, past_at}
use Rattle.refused_traces.specs.Why.{IsWhy, IsLineWhy}
use Rattle.sim_inputs.specs.{declared.settings.Settings.Settings}
use Rattle.command_parts.specs.{declared.refused.Refused.Refused}
use Rattle.command_parts.specs.declared.refused.Refused.TheVariants as refused
use Rattle.text_fields.specs.{Printing.Prints}
use Rattle.core_commands.specs.Check.{IsTraceOf, IsCheckRefusal, setup_by}

-- Nothing is told, or this.
abbrev pub WhereTold : (List ℕ → Type 0) → List ℕ → Type 0
WhereTold P why = (why ≡ []) ⊎ P why

-- The event at this place of a trace is the first that its core refuses, by this rule; and so it is told, of the core
-- that has followed those before it. Its line stands behind those of the trace's head and of these.
pub record IsEventTold (setup : Setup) (trace : TraceContent) (index rule : ℕ) (why : List ℕ) : Type 0 where
  pub broken : IsFirstBroken setup trace.events index rule
  pub told : IsWhy (record { setup = setup; limit = length trace.events; past = past_at trace.events index })
      broken.event (record { index = index; line = index + head_count trace.head + 1; rule = rule }) why

-- The text is some trace of which that is told.
pub record IsEventOfTextTold (settings : Settings) (image : ProgramImage) (text : List ℕ) (index rule : ℕ)
    (why : List ℕ) : Type 0 where
  pub trace : TraceContent
  pub is_trace : IsTraceOf text trace
  pub told : IsEventTold (setup_by settings image trace.head) trace index rule why

-- What is told of a refusal: of an event and of a line why it is refused, of all else nothing.
abbrev pub IsTold : Settings → ProgramImage → List ℕ → Refused → List ℕ → Type 0
IsTold settings image text (refused.Event index rule) why =
    WhereTold (IsEventOfTextTold settings image text index rule) why
IsTold settings image text (refused.Trace line rule) why = WhereTold (IsLineWhy line rule) why
IsTold settings image text reason why = why ≡ []

-- The refusal is of an event or a line of a trace.
abbrev pub IsOfTrace : Refused → Type 0
IsOfTrace (refused.Event index rule) = Unit {0}
IsOfTrace (refused.Trace line rule) = Unit {0}
IsOfTrace _ = ⊥

-- Where it is wanted, what is told of it was printed.
abbrev pub IsToldOn : Bool → Settings → ProgramImage → List ℕ → Option (List ℕ) → Option (List ℕ) → Refused
    → Type 0
IsToldOn why settings image trace old new reason =
    why ≡ true → IsOfTrace reason → Prints old new (IsTold settings image trace reason)

-- When each refusal of `check` comes. Where the output takes no more of what is told, it is refused in place of the
-- trace.
abbrev pub IsCheckRefusalWith : Bool → Settings → ProgramImage → List ℕ → Refused → Type 0
IsCheckRefusalWith why settings image trace reason =
    ((why ≡ true) × (reason ≡ refused.Output)) ⊎ IsCheckRefusal settings image trace reason

-- A core that has followed the events of the trace that a text is.
pub record IsJudged (settings : Settings) (image : ProgramImage) (text : List ℕ) (core : CoreView) : Type 0 where
  pub trace : TraceContent
  pub is_trace : IsTraceOf text trace
  pub whole : core ≡ record {
    setup = setup_by settings image trace.head;
    limit = length trace.events;
    past = reverse trace.events;
  }
  pub accepted : is_accepted core.setup core.limit ≡ true
  pub shown : Shown core
