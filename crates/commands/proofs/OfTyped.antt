-- A line of `step` whose script is typed: its exit status, and what a flush leaves.
use Rattle.std.specs.Prelude.{◌≡◌, ℕ, ◌||◌, IsTrue, List, [], ◌++◌, Option, Ok, Err, is_some}
use Rattle.std.specs.Io.KnownBytes.{Keeps}
use Rattle.elf_image.specs.{Loaded.IsImageOf}
use Rattle.elf_image.specs.Image.{ProgramImage}
use Rattle.core_state.specs.{View.CoreView}
use Rattle.sim_inputs.specs.{declared.settings.Settings.Settings, Configuration.IsConfiguration}
use Rattle.sim_inputs.specs.{Configuration.with_harts}
use Rattle.report_lines.specs.Statuses.{says_harts}
use Rattle.core_commands.specs.{Wanted.Wants}
use Rattle.command_parts.specs.{Inputs.Read, Inputs.AreNamesFor, Inputs.AreLinesFor}
use Rattle.sim_inputs.specs.declared.line.StepCommand.{StepCommand}
use Rattle.symbols.specs.Tables.{Table}
use Rattle.source_lines.specs.Lines.{Origin}
use Rattle.address_labels.specs.Labels.{marks_where}
use Rattle.core_commands.specs.{Account.statuses_of}
use Rattle.command_parts.specs.{Refused.PassesAll}
use Rattle.core_commands.specs.{Prompt.PromptComesTo}
use Rattle.commands.specs.{Typed.TypedComesTo}
use Rattle.commands.proofs.Sound.{prints_kept, status_says}

module _ {P : Type 0} (predicts : P → ℕ → ℕ → ℕ → ℕ → P → Type 0) (before : P) (harts : Option ℕ) (step : StepCommand)
    (settings : Settings)
    (input : Option (List ℕ)) (wanted : Table → Wants) (Traced : CoreView → Type 0) where
  -- A flush changes nothing of it.
  pub typed_flushed : (text : List ℕ) (file : List ℕ) (program : ProgramImage) (names : Table) (lines : Read)
      (origins : Option (List Origin)) (old mid new : Option (List ℕ)) (status : ℕ)
      → IsConfiguration text settings → PassesAll file settings.ram → IsImageOf file settings.ram program
      → AreNamesFor (step.names || step.story) file names → AreLinesFor (is_some step.lines) lines program origins
      → PromptComesTo predicts before (with_harts harts settings) program step.why input (wanted names)
      (marks_where step.names names origins) Traced old mid status → Keeps mid new
      → TypedComesTo predicts before harts step (Ok text) (Ok file) lines input wanted Traced old new status
  typed_flushed text file program names lines origins old mid new status configured passes loaded named beside is
      flushed = (
        settings,
        configured,
        (
          passes,
          program,
          loaded,
          (
            names,
            named,
            (
              origins,
              beside,
              record {
                accepted = is.accepted;
                ended = is.ended;
                core = is.core;
                idle = is.idle;
                answers = is.answers;
                prompted = is.prompted;
                as_step = is.as_step;
                traced = is.traced;
                printed = prints_kept old mid new _ is.printed flushed;
                harts = is.harts;
              },
            ),
          ),
        ),
      )

pub typed_says : {P : Type 0} (predicts : P → ℕ → ℕ → ℕ → ℕ → P
    → Type 0) (before : P) (harts : Option ℕ) (step : StepCommand)
    (config image lines : Read) (input : Option (List ℕ)) (wanted : Table → Wants) (Traced : CoreView
    → Type 0) (old new : Option (List ℕ)) (status : ℕ)
    → TypedComesTo predicts before harts step config image lines input wanted Traced old new status
    → IsTrue (says_harts status)
typed_says predicts before harts step (Ok text) (Ok file) lines input wanted Traced old new status is =
    let comes = is.2.3.2.2 in
    status_says status (statuses_of comes.core) comes.harts
typed_says predicts before harts step (Ok text) (Err why) lines input wanted Traced old new status is = absurd is.2
typed_says predicts before harts step (Err why) image lines input wanted Traced old new status is = absurd is
