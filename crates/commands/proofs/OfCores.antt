-- The commands `step` and `check`: what is wanted of their cores is what their words want.
use Rattle.std.specs.Prelude.{◌≡◌, ℕ, Bool, true, false, List, Option, Result, Ok, IfOk, IfErr, OnOk, is_some}
use Rattle.std.proofs.Common.{sym, ap, subst, ◌∙◌}
use Rattle.elf_image.specs.Image.{ProgramImage}
use Rattle.core_state.specs.View.{CoreView}
use Rattle.text_fields.specs.{Printing.Prints}
use Rattle.sim_inputs.specs.declared.settings.Settings.{Settings}
use Rattle.sim_inputs.specs.declared.line.StepCommand.{StepCommand}
use Rattle.sim_inputs.specs.declared.line.CheckCommand.{CheckCommand}
use Rattle.sim_inputs.specs.declared.line.ProgramCommand.TheVariants as commands
use Rattle.stress_runs.specs.declared.keeping.Part.{Part}
use Rattle.symbols.specs.Tables.{Table}
use Rattle.source_lines.specs.Lines.{Origin}
use Rattle.address_labels.specs.Labels.{Marks, marks_where}
use Rattle.command_parts.specs.declared.refused.Refused.{Refused}
use Rattle.core_commands.specs.{Account.IsTraceWritten, declared.wanted.Wanted.Wanted}
use Rattle.core_commands.specs.Wanted.{Wants, check_wants, step_wants, wants_of}
use Rattle.core_commands.specs.{Check.CheckComesTo, Prompt.PromptComesTo}
use Rattle.core_commands.specs.Step.{AreMarked, IsStepRefusal, StepComesTo}
use Rattle.commands.specs.{Commands.IsCommandRefusal, Perform.IsPerformed, Written.IsWritten}

module _ {S : Type 0} (begins : S → ℕ → Part → S → Type 0) (is_finished : S → Bool) (written : S → Option (List ℕ))
    (has_failed : S → Bool) (before after : S) (settings : Settings) (program : ProgramImage) (names : Table)
    (lines : Option (List Origin)) (second : List ℕ) (wanted : Wanted) (marks : Marks) (old new : Option (List ℕ))
    (answer : Result ℕ Refused) where
  pub step_performed : (step : StepCommand) → wants_of wanted ≡ step_wants step names
      → marks ≡ marks_where step.names names lines → IfErr answer (IsStepRefusal settings second)
      → IfOk answer (StepComesTo settings program second step.why (wants_of wanted) marks
      (IsTraceWritten written has_failed before after wanted.trace) old new)
      → (wanted.trace ≡ false → after ≡ before) → OnOk answer (has_failed after ≡ false)
      → OnOk answer (is_finished after ≡ true)
      → (has_failed after ≡ true → (core : CoreView) × (idle : List ℕ) × Prints old new (AreMarked step.why marks second
      core idle))
      → IsPerformed begins is_finished written has_failed before after (commands.Step step) settings program names lines
      (Ok second) old new answer
  step_performed step wants marked refused ended unwanted unbroken finished unreported = record {
    refused = refused;
    ended = subst
        (λ (m : Marks). IfOk answer (StepComesTo settings program second step.why (step_wants step names) m
        (IsTraceWritten written has_failed before after (is_some step.trace)) old new))
        marked
        (subst
        (λ (w : Wants). IfOk answer (StepComesTo settings program second step.why w marks
        (IsTraceWritten written has_failed before after w.trace) old new))
        wants ended);
    unwanted = λ none. unwanted (ap (λ (w : Wants). w.trace) wants ∙ none);
    unbroken = unbroken;
    finished = finished;
    unreported = λ failed. let told = unreported failed in (told.0, told.1, marks, told.2);
  }

  -- A check has written no file.
  pub check_ended : (check : CheckCommand) → wants_of wanted ≡ check_wants check names
      → marks ≡ marks_where check.names names lines
      → IfOk answer (CheckComesTo settings program second (wants_of wanted) marks old new)
      → IfOk answer (CheckComesTo settings program second (check_wants check names)
      (marks_where check.names names lines) old new)
  check_ended check wants marked ended =
      subst (λ (m : Marks). IfOk answer (CheckComesTo settings program second (check_wants check names) m old new))
      marked
      (subst (λ (w : Wants). IfOk answer (CheckComesTo settings program second w marks old new)) wants ended)

-- So it is of a script that is typed.
pub prompt_ended : {P S : Type 0} (predicts : P → ℕ → ℕ → ℕ → ℕ → P → Type 0) (first : P)
    (written : S → Option (List ℕ)) (has_failed : S → Bool) (before after : S) (settings : Settings)
    (program : ProgramImage) (input : Option (List ℕ)) (names : Table) (lines : Option (List Origin)) (wanted : Wanted)
    (marks : Marks) (old new : Option (List ℕ)) (answer : Result ℕ Refused) (step : StepCommand)
    → wants_of wanted ≡ step_wants step names → marks ≡ marks_where step.names names lines
    → IfOk answer (PromptComesTo predicts first settings program step.why input (wants_of wanted) marks
    (IsTraceWritten written has_failed before after wanted.trace) old new)
    → IfOk answer (PromptComesTo predicts first settings program step.why input (step_wants step names)
    (marks_where step.names names lines) (IsTraceWritten written has_failed before after (is_some step.trace)) old new)
prompt_ended predicts first written has_failed before after settings program input names lines wanted marks old new
    answer step wants marked ended =
    subst
    (λ (m : Marks). IfOk answer (PromptComesTo predicts first settings program step.why input (step_wants step names) m
    (IsTraceWritten written has_failed before after (is_some step.trace)) old new))
    marked
    (subst
    (λ (w : Wants). IfOk answer (PromptComesTo predicts first settings program step.why input w marks
    (IsTraceWritten written has_failed before after w.trace) old new))
    wants ended)

-- Where a trace isn't wanted by the words, it isn't wanted of the core.
pub untraced : (wanted : Wanted) (step : StepCommand) (names : Table) → wants_of wanted ≡ step_wants step names
    → is_some step.trace ≡ false → wanted.trace ≡ false
untraced wanted step names wants none = ap (λ (w : Wants). w.trace) wants ∙ none
