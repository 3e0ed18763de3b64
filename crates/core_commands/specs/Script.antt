-- The command `script`: the script that makes the core have a history again. (This project's own
-- choice.)
use Rattle.std.specs.Prelude.{◌≡◌, ℕ, List, Option, length, reverse}
use Rattle.elf_image.specs.Image.{ProgramImage}
use Rattle.events.specs.{declared.event.Event.Event as AnyEvent}
use Rattle.smt_model.specs.Setup.{Setup}
use Rattle.actors.specs.declared.static_predictor.StaticPredictor.{StaticPredictor}
use Rattle.history_scripts.specs.declared.refused.ScriptRefused.{ScriptRefused}
use Rattle.history_scripts.specs.declared.refused.ScriptRefused.TheVariants as why
use Rattle.history_scripts.specs.{Again.IsScriptOf, Refusals.IsScriptRefusedFor}
use Rattle.event_text.specs.{Contents.TraceContent, Trace.IsRefusedAt}
use Rattle.text_fields.specs.{Printing.Prints}
use Rattle.sim_inputs.specs.{declared.settings.Settings.Settings}
use Rattle.command_parts.specs.{declared.refused.Refused.Refused}
use Rattle.plain_commands.specs.{Retiring.guesses_statically}
use Rattle.core_commands.specs.{Check.IsTraceOf, Check.OfEvents, Check.setup_by}
use Rattle.command_parts.specs.declared.refused.Refused.TheVariants as reason

-- The text is a script by which the core that the trace is of has its history
-- again, by the program's own predictor: a legal history, of which each prediction is this
-- predictor's, and each register that was taken the least free one.
pub record HasScript (settings : Settings) (image : ProgramImage) (trace : List ℕ)
    (text : List ℕ) : Type 0 where
  pub read : TraceContent
  pub is_trace : IsTraceOf trace read
  pub script : IsScriptOf {P = StaticPredictor} guesses_statically
      (setup_by settings image read.head) (reverse read.events) text

-- The events have no script, for this reason.
abbrev pub HasNoScript : Setup → List AnyEvent → ScriptRefused → Type 0
HasNoScript setup events because =
    IsScriptRefusedFor {P = StaticPredictor} guesses_statically setup events because

-- When each refusal comes: those of `check` first, and then the first event that is decided
-- otherwise. The output is refused only where there is a script. Of memory nothing is said.
abbrev pub IsScriptingRefusal : Settings → ProgramImage → List ℕ → Refused → Type 0
IsScriptingRefusal settings image trace reason.Config =
    OfEvents settings image trace (λ setup events. HasNoScript setup events why.Config)
IsScriptingRefusal settings image trace (reason.Trace line rule) = IsRefusedAt trace line rule
IsScriptingRefusal settings image trace (reason.Event index rule) =
    OfEvents settings image trace (λ setup events. HasNoScript setup events (why.Event index rule))
IsScriptingRefusal settings image trace (reason.Prediction index) =
    OfEvents settings image trace (λ setup events. HasNoScript setup events (why.Prediction index))
IsScriptingRefusal settings image trace (reason.Register index) =
    OfEvents settings image trace (λ setup events. HasNoScript setup events (why.Register index))
IsScriptingRefusal settings image trace reason.Memory = Unit {0}
IsScriptingRefusal settings image trace reason.Output =
    (text : List ℕ) × HasScript settings image trace text
IsScriptingRefusal settings image trace _ = ⊥

-- The part of it that the making of the script answers.
abbrev pub IsMakingRefusal : Setup → List AnyEvent → Refused → Type 0
IsMakingRefusal setup events reason.Config = HasNoScript setup events why.Config
IsMakingRefusal setup events (reason.Event index rule) =
    HasNoScript setup events (why.Event index rule)
IsMakingRefusal setup events (reason.Prediction index) =
    HasNoScript setup events (why.Prediction index)
IsMakingRefusal setup events (reason.Register index) =
    HasNoScript setup events (why.Register index)
IsMakingRefusal setup events reason.Memory = Unit {0}
IsMakingRefusal setup events _ = ⊥

-- What the command comes to: a script of the trace's history is printed, and the exit status is 0.
pub record ScriptComesTo (settings : Settings) (image : ProgramImage) (trace : List ℕ)
    (old new : Option (List ℕ)) (exit_status : ℕ) : Type 0 where
  pub printed : Prints old new (HasScript settings image trace)
  pub zero : exit_status ≡ 0
