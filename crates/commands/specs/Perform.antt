-- What the program owes on a line with its files as they were read: when each refusal comes, and
-- what the line comes to. (This project's own choice.)
use Rattle.std.specs.Prelude.{◌≡◌, ◌⊎◌, ℕ, Bool, true, false, List, Option, Some, None, is_some, Result, Err}
use Rattle.std.specs.Prelude.{OnOk, IfOk, IfErr}
use Rattle.elf_image.specs.Image.{ProgramImage}
use Rattle.symbols.specs.Tables.{Table}
use Rattle.sim_inputs.specs.{declared.line.Command.Command, declared.settings.Settings.Settings}
use Rattle.command_parts.specs.{declared.refused.Refused.Refused}
use Rattle.command_parts.specs.declared.refused.Refused.TheVariants.{Image, Config, Harts, Lines, Memory, File, Output}
use Rattle.command_parts.specs.declared.refused.Unread.TheVariants as unread
use Rattle.command_parts.specs.Refused.{IsFirstFailed, AreAccepted}
use Rattle.source_lines.specs.Lines.{Origin}
use Rattle.command_parts.specs.Inputs.{IsLinesFault, OfLines}
use Rattle.command_parts.specs.Inputs.{Read, OfFile, BehindFile, OfSettings, OfProgram, OfNamedProgram}
use Rattle.command_parts.specs.Inputs.{IsNoConfiguration}
use Rattle.stress_runs.specs.declared.keeping.Part.{Part}
use Rattle.commands.specs.Written.{ToWrite, TextOf, IsWritten}
use Rattle.core_commands.specs.Migrate.{IsMigrateRefusal, MigrateComesTo}
use Rattle.commands.specs.Commands.{IsCommandRefusal, CommandComesTo, AreUnfit, IsProgramUnreported}
use Rattle.commands.specs.Commands.{reads_lines, program_writes_file, wants_names}
use Rattle.commands.specs.Explain.{IsExplainRefusal, ExplainComesTo, IsBesideFault, TellsBeside}
use Rattle.sim_inputs.specs.declared.line.Beside.{Beside}
use Rattle.sim_inputs.specs.{Files.written_for_test, Files.reads_trace, Files.is_trace, Configuration.with_harts}
use Rattle.event_text.specs.Refusals.{NamesCore}
use Rattle.sim_inputs.specs.declared.line.LitmusCommand.{LitmusCommand}
use Rattle.sim_inputs.specs.declared.line.ProgramCommand.{ProgramCommand}
use Rattle.sim_inputs.specs.declared.line.Command.TheVariants as commands
use Rattle.commands.specs.Tested.{IsTestedRefusal, TestedComesTo}

-- Harts are given beside a trace that says itself of what core it is.
abbrev pub AreTwoCores : Option ℕ → Read → Type 0
AreTwoCores None trace = ⊥
AreTwoCores (Some count) trace = OfFile trace NamesCore

-- So they are for a command of a program that reads a trace, and for a trace that is explained.
abbrev pub HasTwoCores : Option ℕ → ProgramCommand → Read → Type 0
HasTwoCores harts command second = (reads_trace command ≡ true) × AreTwoCores harts second

abbrev pub TellsTwoCores : Option ℕ → Beside → Read → Type 0
TellsTwoCores harts beside second = (is_trace beside ≡ true) × AreTwoCores harts second

-- When each refusal comes of a command of a program, with so many harts where that is given: the configuration is
-- looked at first, then the image, then harts beside a trace, then the lines of the program's sources, and then what
-- the
-- command needs. A file that can't be read is refused where it is looked at.
abbrev pub IsProgramRefusal : Option ℕ → ProgramCommand → Read → Read → Read → Read → Refused → Type 0
IsProgramRefusal harts command config image second lines (Image number) = OfSettings config
    (λ settings. OfFile image (λ file. IsFirstFailed file settings.ram number))
IsProgramRefusal harts command config image second lines Config = OfFile config IsNoConfiguration
    ⊎ OfProgram config image (λ settings program. AreUnfit command (with_harts harts settings) program second)
IsProgramRefusal harts command config image second lines Harts = OfProgram config image
    (λ settings program. HasTwoCores harts command second)
IsProgramRefusal harts command config image second lines (Lines number fault) = OfProgram config image
    (λ settings program. IsLinesFault (reads_lines command) lines program (Lines number fault))
IsProgramRefusal harts command config image second lines Memory = Unit {0}
IsProgramRefusal harts command config image second lines File = (config ≡ Err unread.File)
    ⊎ OfSettings config (λ settings. image ≡ Err unread.File)
    ⊎ OfProgram config image (λ settings program. IsLinesFault (reads_lines command) lines program File)
    ⊎ OfNamedProgram (wants_names command) config image
    (λ settings program names. IsCommandRefusal command (with_harts harts settings) program names second File)
IsProgramRefusal harts command config image second lines reason = OfNamedProgram (wants_names command) config image
    (λ settings program names. IsCommandRefusal command (with_harts harts settings) program names second reason)

-- What it comes to: its configuration's settings are a core's, with these harts too, its image passes every check, a
-- trace doesn't name another core, and the command has come to what is owed on it, with the names and the source lines
-- that it wants.
abbrev pub ProgramComesTo : Option ℕ → ProgramCommand → Read → Read → Read → Read → (ToWrite → Type 0)
    → Option (List ℕ) → Option (List ℕ) → ℕ → Type 0
ProgramComesTo harts command config image second lines Traced old new status =
    OfNamedProgram (wants_names command) config image
    (λ settings program names. AreAccepted (with_harts harts settings) × (HasTwoCores harts command second → ⊥)
    × OfLines (reads_lines command) lines program (λ origins.
    CommandComesTo command (with_harts harts settings) program names origins second Traced old new status))

-- When each refusal comes of what explains a configuration and an image: theirs, and behind them that of the
-- text beside them.
abbrev pub IsBesideRefusal : Option ℕ → Option Beside → Read → Read → Read → Refused → Type 0
IsBesideRefusal harts None config image second reason = ⊥
IsBesideRefusal harts (Some beside) config image second Harts = OfProgram config image
    (λ settings program. TellsTwoCores harts beside second)
IsBesideRefusal harts (Some beside) config image second reason = OfProgram config image
    (λ settings program. BehindFile second (IsBesideFault beside (with_harts harts settings) program) reason)

abbrev pub IsExplainLineRefusal : Option ℕ → Option Beside → Read → Read → Read → Refused → Type 0
IsExplainLineRefusal harts beside config image second reason =
    BehindFile config (λ text. IsExplainRefusal text image) reason
    ⊎ IsBesideRefusal harts beside config image second reason

-- What it comes to: both are accepted, and it has said so; and so is the text beside them.
abbrev pub HasToldBeside : Option ℕ → Option Beside → Settings → ProgramImage → Read → Option (List ℕ)
    → Option (List ℕ) → Type 0
HasToldBeside harts None settings program second old new = new ≡ old
HasToldBeside harts (Some beside) settings program second old new = (TellsTwoCores harts beside second → ⊥)
    × OfFile second (λ text. TellsBeside beside (with_harts harts settings) program text old new)

abbrev pub ExplainLineComesTo : Option ℕ → Option Beside → Read → Read → Read → Option (List ℕ)
    → Option (List ℕ) → ℕ → Type 0
ExplainLineComesTo harts beside config image second old new status = OfProgram config image
    (λ settings program. AreAccepted settings × ((mid : Option (List ℕ))
    × ExplainComesTo harts config image old mid status
    × HasToldBeside harts beside settings program second mid new))

-- When each refusal comes of a litmus test: the configuration is looked at first, then the test. A file
-- that can't be read is refused where it is looked at.
abbrev pub IsLitmusLineRefusal : LitmusCommand → Read → Read → Refused → Type 0
IsLitmusLineRefusal litmus config test Config = OfFile config IsNoConfiguration
    ⊎ OfSettings config (λ settings. OfFile test (λ text. IsTestedRefusal litmus.run text settings litmus Config))
IsLitmusLineRefusal litmus config test File =
    (config ≡ Err unread.File) ⊎ OfSettings config (λ settings. test ≡ Err unread.File)
IsLitmusLineRefusal litmus config test Memory = Unit {0}
IsLitmusLineRefusal litmus config test reason =
    OfSettings config (λ settings. OfFile test (λ text. IsTestedRefusal litmus.run text settings litmus reason))

-- What it comes to: the configuration's settings are a core's, and the command has come to what is owed on
-- it, with the harts of the test in place of theirs.
abbrev pub LitmusLineComesTo : LitmusCommand → Read → Read → (List ℕ → Type 0) → Option (List ℕ) → Option (List ℕ) → ℕ
    → Type 0
LitmusLineComesTo litmus config test Put old new status =
    OfSettings config (λ settings. OfFile test (λ text.
    TestedComesTo litmus.run text settings litmus Put old new status))

-- When each refusal comes of a migration: the configuration is looked at first, then the trace. A file that
-- can't be read is refused where it is looked at.
abbrev pub IsMigrateLineRefusal : Read → Read → Refused → Type 0
IsMigrateLineRefusal config trace Config = OfFile config IsNoConfiguration
IsMigrateLineRefusal config trace File =
    (config ≡ Err unread.File) ⊎ OfSettings config (λ settings. trace ≡ Err unread.File)
IsMigrateLineRefusal config trace Memory = Unit {0}
IsMigrateLineRefusal config trace reason =
    OfSettings config (λ settings. OfFile trace (λ text. IsMigrateRefusal settings text reason))

-- What it comes to: the configuration's settings are a core's, of which the trace in the file is then.
abbrev pub MigrationComesTo : Read → Read → (List ℕ → Type 0) → ℕ → Type 0
MigrationComesTo config trace Put status =
    OfSettings config (λ settings. OfFile trace (λ text. MigrateComesTo settings text Put status))

-- So does its line, which prints nothing.
abbrev pub MigrateLineComesTo : Read → Read → (ToWrite → Type 0) → Option (List ℕ) → Option (List ℕ) → ℕ
    → Type 0
MigrateLineComesTo config trace Traced old new status =
    (new ≡ old) × MigrationComesTo config trace (λ text. Traced (TextOf text)) status

-- When each refusal of a line comes, and what it comes to, by what its command is of, with so many harts where that is
-- given. A litmus test and a migration have none of those.
abbrev pub IsRefusal : Option ℕ → Command → Read → Read → Read → Read → Refused → Type 0
IsRefusal harts (commands.OfProgram command) config image second lines reason =
    IsProgramRefusal harts command config image second lines reason
IsRefusal harts (commands.Explain explain) config image second lines reason =
    IsExplainLineRefusal harts explain.beside config image second reason
IsRefusal harts (commands.Litmus litmus) config test second lines reason =
    IsLitmusLineRefusal litmus config test reason
IsRefusal harts (commands.Migrate migrate) config none trace lines reason = IsMigrateLineRefusal config trace reason

abbrev pub LineComesTo : Option ℕ → Command → Read → Read → Read → Read → (ToWrite → Type 0)
    → Option (List ℕ) → Option (List ℕ) → ℕ → Type 0
LineComesTo harts (commands.OfProgram command) config image second lines Traced old new status =
    ProgramComesTo harts command config image second lines Traced old new status
LineComesTo harts (commands.Explain explain) config image second lines Traced old new status =
    ExplainLineComesTo harts explain.beside config image second old new status
LineComesTo harts (commands.Litmus litmus) config test second lines Traced old new status =
    LitmusLineComesTo litmus config test (λ text. Traced (TextOf text)) old new status
LineComesTo harts (commands.Migrate migrate) config none trace lines Traced old new status =
    MigrateLineComesTo config trace Traced old new status

-- A migration that was refused has put nothing into the sink of its file, unless the output failed.
abbrev pub IsLeft : {S : Type 0} → Command → S → S → Refused → Type 0
IsLeft (commands.Migrate migrate) before after reason = (reason ≡ Output) ⊎ (after ≡ before)
IsLeft command before after reason = Unit {0}

-- What a line prints that doesn't come to its end since its file couldn't be written: of a litmus test and of a
-- migration nothing. What explains writes no file.
abbrev pub IsUnreported : Command → Read → Option (List ℕ) → Option (List ℕ) → Type 0
IsUnreported (commands.OfProgram command) second old new = IsProgramUnreported command second old new
IsUnreported (commands.Explain explain) second old new = ⊥
IsUnreported (commands.Litmus litmus) second old new = new ≡ old
IsUnreported (commands.Migrate migrate) second old new = new ≡ old

-- The line writes a file that it names: as its command of a program does, what is made of a litmus test, or a
-- migrated trace.
abbrev pub writes_file : Command → Bool
writes_file (commands.OfProgram command) = program_writes_file command
writes_file (commands.Explain explain) = false
writes_file (commands.Litmus litmus) = is_some (written_for_test litmus)
writes_file (commands.Migrate migrate) = true

-- What a command has answered, of its settings, its program image, its names, its source lines and its second file,
-- before the
-- output is flushed: a refusal that may come of it, or an exit status behind what is owed on it.
-- Where no file is written nothing goes into the sink of its files. The sink hasn't failed behind an
-- exit status, and what was put into it is finished; where it has failed, nothing is printed but what a command
-- prints before its trace.
pub record IsPerformed {S : Type 0} (begins : S → ℕ → Part → S → Type 0) (is_finished : S → Bool)
    (written : S → Option (List ℕ)) (has_failed : S
    → Bool) (before after : S) (command : ProgramCommand) (settings : Settings) (program : ProgramImage)
    (names : Table) (lines : Option (List Origin)) (second : Read) (old new : Option (List ℕ))
    (answer : Result ℕ Refused) : Type 0 where
  pub refused : IfErr answer (IsCommandRefusal command settings program names second)
  pub ended : IfOk answer (CommandComesTo command settings program names lines second
      (IsWritten begins written has_failed before after) old new)
  pub unwanted : program_writes_file command ≡ false → after ≡ before
  pub unbroken : OnOk answer (has_failed after ≡ false)
  pub finished : OnOk answer (is_finished after ≡ true)
  pub unreported : has_failed after ≡ true → IsProgramUnreported command second old new
