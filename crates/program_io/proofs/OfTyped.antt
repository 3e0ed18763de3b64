-- Lines whose script is typed, which are of `step` and whose second file is not read, and all others.
use Rattle.std.specs.Prelude.{◌≡◌, ℕ, Bool, false, ◌&&◌, IsTrue, List, [], Option, Some, None, Ok}
use Rattle.std.proofs.Common.{refl, sym, ap, subst, ◌∙◌}
use Rattle.std.proofs.lemmas.Bool.{cases_Bool}
use mathlib.Core.Logic.{inl, inr}
use Rattle.sim_inputs.specs.declared.line.Line.{Line}
use Rattle.sim_inputs.specs.declared.line.Command.{Command}
use Rattle.sim_inputs.specs.declared.line.Command.TheVariants as commands
use Rattle.sim_inputs.specs.declared.line.ProgramCommand.TheVariants as program
use Rattle.sim_inputs.specs.declared.line.StepCommand.{StepCommand}
use Rattle.sim_inputs.specs.Files.{files_of, is_standard_input}
use Rattle.report_lines.specs.Statuses.{says_harts}
use Rattle.command_parts.specs.declared.refused.Refused.{Refused}
use Rattle.command_parts.specs.{Inputs.Read, Refused.exit_status_of}
use Rattle.commands.specs.{Perform.IsRefusal}
use Rattle.program_io.specs.declared.performing.Program.{Program}
use Rattle.program_io.specs.Performed.{typed_step, IsReadAs, HasPerformed, LineHasCome, TypedHasCome, uncommented_for}

typed_command : (at_terminal : Bool) (command : Command) (step : StepCommand)
    → typed_step at_terminal command ≡ Some step → command ≡ commands.OfProgram (program.Step step)
typed_command at_terminal (commands.OfProgram (program.Step s)) step is =
    elim (cases_Bool (at_terminal && is_standard_input s.script.now)) [
      | inl typed ↦
          let found : ◌≡◌ {A = Option StepCommand} (Some s) (Some step) = rw typed at is in
          let same : s ≡ step = cc in
          ap (λ (t : StepCommand). commands.OfProgram (program.Step t)) same
      | inr read ↦ let none : ◌≡◌ {A = Option StepCommand} None (Some step) = rw read at is in absurd (cc)
    ]
typed_command at_terminal (commands.OfProgram (program.Run run)) step is = absurd (cc)
typed_command at_terminal (commands.OfProgram (program.Check check)) step is = absurd (cc)
typed_command at_terminal (commands.OfProgram (program.Plain plain)) step is = absurd (cc)
typed_command at_terminal (commands.OfProgram (program.Schedule schedule)) step is = absurd (cc)
typed_command at_terminal (commands.OfProgram (program.Script script)) step is = absurd (cc)
typed_command at_terminal (commands.OfProgram (program.List list)) step is = absurd (cc)
typed_command at_terminal (commands.OfProgram (program.Chart chart)) step is = absurd (cc)
typed_command at_terminal (commands.OfProgram (program.Outcomes outcomes)) step is = absurd (cc)
typed_command at_terminal (commands.Explain explain) step is = absurd (cc)
typed_command at_terminal (commands.Litmus litmus) step is = absurd (cc)
typed_command at_terminal (commands.Migrate migrate) step is = absurd (cc)

some_is_none : (step : StepCommand) → ◌≡◌ {A = Option StepCommand} (Some step) None → ⊥
some_is_none step is = absurd (cc)

some_same : (step other : StepCommand) → ◌≡◌ {A = Option StepCommand} (Some step) (Some other) → step ≡ other
some_same step other is = cc

-- It is performed with its other files as they were read, and refused as an empty script is.
pub typed_performed : {F S G P : Type 0} (has_failed : F → Bool) (predicts : P → ℕ → ℕ → ℕ → ℕ → P → Type 0)
    (by : Program S G P) (line : Line) (step : StepCommand) (old new : Option (List ℕ)) (status : ℕ) (files : F)
    (config image lines : Read)
    → typed_step by.at_terminal line.command ≡ Some step
    → IsReadAs (files_of line).config config → IsReadAs (files_of line).program image
    → IsReadAs (files_of line).lines lines
    → (says_harts status ≡ false → (reason : Refused) × (exit_status_of reason ≡ status)
    × IsRefusal line.harts (commands.OfProgram (program.Step step)) config image (Ok []) lines reason)
    → (IsTrue (says_harts status)
    → TypedHasCome has_failed predicts by.predict files line.harts step config image lines old new status)
    → HasPerformed has_failed predicts by line old new status
typed_performed has_failed predicts by line step old new status files config image lines typed has_config has_program has_lines
    refused comes =
    record {
      config = config;
      program = image;
      second = Ok [];
      lines = lines;
      has_config = has_config;
      has_program = has_program;
      has_second = rw typed refl;
      has_lines = has_lines;
      files = files;
      comes = λ none says. absurd (some_is_none step (sym typed ∙ none));
      typed = λ other is says.
          let same = some_same step other (sym typed ∙ is) in
          subst (λ s. TypedHasCome has_failed predicts by.predict files line.harts s config image lines old new status)
          same (comes says);
      refused = λ none.
          let why = refused none in
          let same = typed_command by.at_terminal line.command step typed in (
            why.0,
            why.1,
            subst (λ c. IsRefusal line.harts c config image (uncommented_for c (Ok [])) lines why.0)
                (sym same) why.2,
          );
    }

-- Where no script is typed, a line is performed with all its files as they were read, a script or an order without
-- its comments.
pub read_performed : {F S G P : Type 0} (has_failed : F → Bool) (predicts : P → ℕ → ℕ → ℕ → ℕ → P → Type 0)
    (by : Program S G P) (line : Line) (typed : Option StepCommand) (old new : Option (List ℕ)) (status : ℕ) (files : F)
    (config image second lines text : Read) → typed ≡ typed_step by.at_terminal line.command → typed ≡ None
    → IsReadAs (files_of line).config config → IsReadAs (files_of line).program image
    → IsReadAs (files_of line).second second → IsReadAs (files_of line).lines lines
    → text ≡ uncommented_for line.command second
    → (says_harts status ≡ false → (reason : Refused) × (exit_status_of reason ≡ status)
    × IsRefusal line.harts line.command config image text lines reason)
    → (IsTrue (says_harts status)
    → LineHasCome has_failed files line.harts line.command config image text lines old new status)
    → HasPerformed has_failed predicts by line old new status
read_performed has_failed predicts by line typed old new status files config image second lines text found none has_config
    has_program has_second has_lines blanked refused comes =
    record {
      config = config;
      program = image;
      second = second;
      lines = lines;
      has_config = has_config;
      has_program = has_program;
      has_second = rw (sym found ∙ none) has_second;
      has_lines = has_lines;
      files = files;
      comes = λ read says.
          subst
          (λ (r : Read).
          LineHasCome has_failed files line.harts line.command config image r lines old new status)
          blanked (comes says);
      typed = λ step is says. absurd (some_is_none step (sym is ∙ sym found ∙ none));
      refused = λ harts.
          let why = refused harts in (
            why.0,
            why.1,
            subst (λ (r : Read). IsRefusal line.harts line.command config image r lines why.0) blanked
                why.2,
          );
    }
