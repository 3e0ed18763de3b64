-- A line of `step` whose script is typed. (This project's own choice.)
use Rattle.std.specs.Prelude.{ℕ, ◌||◌, List, Option, is_some}
use Rattle.core_state.specs.{View.CoreView}
use Rattle.core_commands.specs.Wanted.{Wants, step_wants}
use Rattle.symbols.specs.Tables.{Table}
use Rattle.sim_inputs.specs.declared.line.StepCommand.{StepCommand}
use Rattle.sim_inputs.specs.Configuration.{with_harts}
use Rattle.address_labels.specs.Labels.{marks_where}
use Rattle.command_parts.specs.{Inputs.Read, Inputs.OfLines, Inputs.OfNamedProgram}
use Rattle.core_commands.specs.{Prompt.PromptComesTo}

-- What a line comes to whose script is typed: its configuration's settings are a core's, with so many harts where that
-- is given, its image passes every check, and the command has come to what is owed on it, with the names and the source
-- lines that it wants.
abbrev pub TypedComesTo : {P : Type 0} → (P → ℕ → ℕ → ℕ → ℕ → P → Type 0) → P → Option ℕ → StepCommand → Read → Read
    → Read → Option (List ℕ) → (Table → Wants) → (CoreView → Type 0) → Option (List ℕ) → Option (List ℕ) → ℕ
    → Type 0
TypedComesTo predicts before harts step config image lines input wanted Traced old new status =
    OfNamedProgram (step.names || step.story) config image (λ settings program names. OfLines (is_some step.lines) lines
    program (λ origins. PromptComesTo predicts before (with_harts harts settings) program step.why input
    (wanted names) (marks_where step.names names origins) Traced old new status))

-- So it does with what its words want of what is shown.
abbrev pub StepIsTyped : {P : Type 0} → (P → ℕ → ℕ → ℕ → ℕ → P → Type 0) → P → Option ℕ → StepCommand → Read → Read
    → Read → Option (List ℕ) → (CoreView → Type 0) → Option (List ℕ) → Option (List ℕ) → ℕ → Type 0
StepIsTyped predicts before harts step config image lines input Traced old new status =
    TypedComesTo predicts before harts step config image lines input (step_wants step) Traced old new status
