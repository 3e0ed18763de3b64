-- The command `script`: its refusals from those of the trace and of the script, and what it comes to.
use Rattle.std.specs.Prelude.{ℕ, List, Option, reverse}
use Rattle.std.proofs.Common.{refl}
use Rattle.std.specs.Io.KnownBytes.{Appends}
use Rattle.elf_image.specs.Image.{ProgramImage}
use Rattle.event_text.specs.{Contents.TraceContent}
use Rattle.actors.specs.declared.static_predictor.StaticPredictor.{StaticPredictor}
use Rattle.history_scripts.specs.Again.{IsScriptOf}
use Rattle.sim_inputs.specs.declared.settings.Settings.{Settings}
use Rattle.plain_commands.specs.{Retiring.guesses_statically}
use Rattle.core_commands.specs.{Check.IsTraceOf, Check.setup_by}
use Rattle.core_commands.specs.Script.{HasScript, ScriptComesTo}

abbrev IsItsScript : Settings → ProgramImage → TraceContent → List ℕ → Type 0
IsItsScript settings image read text = IsScriptOf {P = StaticPredictor} guesses_statically
    (setup_by settings image read.head) (reverse read.events) text

pub has_script : (settings : Settings) (image : ProgramImage) (trace : List ℕ) (read : TraceContent)
    (text : List ℕ) → IsTraceOf trace read → IsItsScript settings image read text
    → HasScript settings image trace text
has_script settings image trace read text is_trace is =
    record { read = read; is_trace = is_trace; script = is }

pub comes_to : (settings : Settings) (image : ProgramImage) (trace : List ℕ) (read : TraceContent)
    (text : List ℕ) (old new : Option (List ℕ)) → IsTraceOf trace read → IsItsScript settings image read text
    → Appends old new text → ScriptComesTo settings image trace old new 0
comes_to settings image trace read text old new is_trace is written = record {
  printed = (text, has_script settings image trace read text is_trace is, written);
  zero = refl;
}
