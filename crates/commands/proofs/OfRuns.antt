-- The command `run`, once or as often as is asked for.
use Rattle.std.proofs.Common.{◌≡◌, ℕ, ◌+◌, ◌<◌, ◌^◌, Bool, true, false, sym, ap, subst, ◌∙◌}
use Rattle.std.proofs.Common.{List, [], ◌∷◌, Option, Some, None}
use Rattle.elf_image.specs.Image.{ProgramImage}
use Rattle.sim_inputs.specs.declared.settings.Settings.{Settings}
use Rattle.stress_runs.specs.declared.keeping.Part.{Part}
use Rattle.std.specs.Prelude.{Result, IfOk, IfErr, OnOk, is_some}
use Rattle.sim_inputs.specs.declared.line.RunCommand.{RunCommand}
use Rattle.sim_inputs.specs.declared.line.ProgramCommand.TheVariants as commands
use Rattle.symbols.specs.Tables.{Table}
use Rattle.source_lines.specs.Lines.{Origin}
use Rattle.address_labels.specs.Labels.{marks_where}
use Rattle.command_parts.specs.{declared.refused.Refused.Refused, Inputs.Read}
use Rattle.core_commands.specs.{Account.IsTraceWritten}
use Rattle.core_commands.specs.{Run.IsRunRefusal, Run.RunComesTo}
use Rattle.commands.specs.{Commands.RunsComeTo, Commands.IsRunsRefusal}
use Rattle.commands.specs.{Perform.IsPerformed, Written.IsWritten}
use Rattle.core_commands.specs.{declared.wanted.Wanted.Wanted, Wanted.Wants, Wanted.run_wants, Wanted.wants_of}
use Rattle.core_commands.specs.Stress.{StressComesTo, AreEndsWritten, IsStressRefusal}

module _ {S : Type 0} (begins : S → ℕ → Part → S → Type 0) (written : S → Option (List ℕ)) (has_failed : S → Bool)
    (before after : S) (run : RunCommand) (settings : Settings) (program : ProgramImage) (names : Table)
    (lines : Option (List Origin)) (second : Read)
    (old new : Option (List ℕ)) (answer : Result ℕ Refused)
    (unbroken : OnOk answer (has_failed after ≡ false)) (is_finished : S → Bool)
    (finished : OnOk answer (is_finished after ≡ true)) (unreported : has_failed after ≡ true → new ≡ old) where
  pub many_performed : (times : ℕ) → run.times ≡ Some times
      → IfErr answer (IsStressRefusal settings program names run)
      → IfOk answer (StressComesTo settings program names run times (λ cores. Unit {0})
      (AreEndsWritten begins written has_failed before after (is_some run.keep) names) old new)
      → (is_some run.keep ≡ false → after ≡ before)
      → IsPerformed begins is_finished written has_failed before after
      (commands.Run run) settings program names lines second old new answer
  many_performed times is refused ended unwanted = record {
    refused = subst (λ t. IfErr answer (IsRunsRefusal t run settings program names)) (sym is) refused;
    ended = subst
        (λ t. IfOk answer (RunsComeTo t run settings program names (marks_where run.names names lines)
        (IsWritten begins written has_failed before after) old new))
        (sym is) ended;
    unwanted = λ none. unwanted (rw is at none);
    unbroken = unbroken;
    finished = finished;
    unreported = unreported;
  }

  pub one_performed : (wanted : Wanted) → run.times ≡ None → wants_of wanted ≡ run_wants run
      → IfErr answer (IsRunRefusal settings)
      → IfOk answer (RunComesTo settings program (wants_of wanted) (marks_where run.names names lines)
      (IsTraceWritten written has_failed before after wanted.trace) old new)
      → (wanted.trace ≡ false → after ≡ before)
      → IsPerformed begins is_finished written has_failed before after
      (commands.Run run) settings program names lines second old new answer
  one_performed wanted is same refused ended unwanted = record {
    refused = subst (λ t. IfErr answer (IsRunsRefusal t run settings program names)) (sym is) refused;
    ended = subst
        (λ t. IfOk answer (RunsComeTo t run settings program names (marks_where run.names names lines)
        (IsWritten begins written has_failed before after) old new))
        (sym is)
        (subst
        (λ (w : Wants).
        IfOk answer (RunComesTo settings program w (marks_where run.names names lines)
        (IsTraceWritten written has_failed before after w.trace) old new))
        same ended);
    unwanted = λ none. unwanted (ap (λ (w : Wants). w.trace) same ∙ rw is at none);
    unbroken = unbroken;
    finished = finished;
    unreported = unreported;
  }
