-- What comes of the program's words. (This project's own choice.)
use Rattle.std.specs.Prelude.{◌≡◌, ◌⊎◌, ℕ, Bool, true, false, ◌&&◌, ◌||◌, not, IsTrue, List, [], length}
use Rattle.std.specs.Prelude.{Option, Some, None, IfNone}
use Rattle.std.specs.Prelude.{Result, Ok, Err, Vec, is_some, if◌then◌else◌}
use Rattle.std.specs.Borrow.{Bor}
use Rattle.sim_inputs.specs.{declared.line.Line.Line, declared.line.WordsRefused.WordsRefused}
use Rattle.sim_inputs.specs.CommandLine.{Asks, AreWordsRefusedFor}
use Rattle.sim_inputs.specs.declared.line.Command.{Command}
use Rattle.sim_inputs.specs.declared.line.Command.TheVariants.{OfProgram, Litmus}
use Rattle.sim_inputs.specs.declared.line.LitmusCommand.{LitmusCommand}
use Rattle.plain_commands.specs.Suite.{IsKnown}
use Rattle.commands.specs.Suites.{IsSuiteLineRefusal, suite_status_of}
use Rattle.commands.specs.declared.suites.SuiteRefused.{SuiteRefused}
use Rattle.sim_inputs.specs.declared.line.ProgramCommand.TheVariants.{Step}
use Rattle.sim_inputs.specs.declared.line.StepCommand.{StepCommand}
use Rattle.sim_inputs.specs.Files.{files_of, is_standard_input, reads_words, written_for_test}
use Rattle.sim_inputs.specs.SeveralTests.{is_summed, tests_named}
use Rattle.scripts.specs.Comments.{uncommented}
use Rattle.report_lines.specs.Statuses.{says_harts}
use Rattle.command_parts.specs.{declared.refused.Refused.Refused}
use Rattle.command_parts.specs.{Inputs.Read, Refused.exit_status_of}
use Rattle.commands.specs.{Perform.IsRefusal}
use Rattle.program_io.specs.{declared.files.ReadRefused.ReadRefused, Files.unread_for}
use Rattle.program_io.specs.Words.{IsWordsStatus, HaveTold}
use Rattle.program_io.specs.Names.{IsGiven, IsHeard}
use Rattle.program_io.specs.declared.performing.Program.{Program}
use Rattle.commands.specs.{Perform.LineComesTo, Typed.StepIsTyped, Suites.SuiteLineComesTo}
use Rattle.commands.specs.Written.{ToWrite, TraceOf, IsWritten}

-- A file as it was read, of the vector that holds its bytes.
abbrev pub read_of : {A : Type 0} → Result (Vec ℕ A) ReadRefused → Read
read_of (Ok bytes) = Ok bytes.items
read_of (Err why) = Err (unread_for why)

-- A file that isn't named is read as an empty one.
abbrev pub IsReadAs : Option (Bor (List ℕ)) → Read → Type 0
IsReadAs name read = IfNone name (read ≡ Ok [])

-- The command of a line whose script is typed: in its place stands standard input, which is a terminal.
abbrev pub typed_step : Bool → Command → Option StepCommand
typed_step at_terminal (OfProgram (Step step)) =
    if at_terminal && is_standard_input step.script.now then Some step else None
typed_step at_terminal _ = None

-- The second file of a line, where one is named and read: no script that is typed is.
abbrev pub second_of : Bool → Line → Option (Bor (List ℕ))
second_of at_terminal line =
    if is_some (typed_step at_terminal line.command) then None else (files_of line).second

-- The second file of a command as its text is taken: without comments, where it has words.
abbrev pub uncommented_for : Command → Read → Read
uncommented_for command (Ok text) = Ok (if reads_words command then uncommented text else text)
uncommented_for command (Err why) = Err why

-- What a line puts into its files: of what a file takes nothing is known, but that none failed.
abbrev pub HasPutInto : {F : Type 0} → (F → Bool) → F → F → ToWrite → Type 0
HasPutInto has_failed before after = IsWritten (λ files end part later. Unit {0}) (λ files. None) has_failed before after

-- What was printed, and put into files that stood so before, is what the command comes to, of its files as they were read.
pub record LineHasCome {F : Type 0} (has_failed : F → Bool) (before : F) (harts : Option ℕ) (command : Command)
    (config program second lines : Read) (old new : Option (List ℕ)) (status : ℕ) : Type 0 where
  pub after : F
  pub comes : LineComesTo harts command config program second lines (HasPutInto has_failed before after) old new status

-- So it is of `step` whose script is typed: of what was typed, as far as it is known.
pub record TypedHasCome {F P : Type 0} (has_failed : F → Bool) (predicts : P → ℕ → ℕ → ℕ → ℕ → P → Type 0) (predictor : P)
    (before : F) (harts : Option ℕ) (step : StepCommand) (config program lines : Read) (old new : Option (List ℕ))
    (status : ℕ) : Type 0 where
  pub input : Option (List ℕ)
  pub after : F
  pub comes : StepIsTyped predicts predictor harts step config program lines input
      (λ core. HasPutInto has_failed before after (TraceOf (is_some step.trace) core)) old new status

-- A line was performed with this exit status, and this was on the output before and behind it: where the status says how
-- the harts stand, that is what the line comes to; where it says that there is no report, the reason is one of this line.
-- Both with its files as they were read, a script or an order without its comments.
pub record HasPerformed {F S G P : Type 0} (has_failed : F → Bool) (predicts : P → ℕ → ℕ → ℕ → ℕ → P → Type 0)
    (by : Program S G P) (line : Line) (old new : Option (List ℕ)) (status : ℕ) : Type 0 where
  pub config : Read
  pub program : Read
  pub second : Read
  pub lines : Read
  pub has_config : IsReadAs (files_of line).config config
  pub has_program : IsReadAs (files_of line).program program
  pub has_second : IsReadAs (second_of by.at_terminal line) second
  pub has_lines : IsReadAs (files_of line).lines lines
  pub files : F
  pub comes : typed_step by.at_terminal line.command ≡ None → IsTrue (says_harts status)
      → LineHasCome has_failed files line.harts line.command config program (uncommented_for line.command second)
      lines old new status
  pub typed : (step : StepCommand) → typed_step by.at_terminal line.command ≡ Some step → IsTrue (says_harts status)
      → TypedHasCome has_failed predicts by.predict files line.harts step config program lines old new status
  pub refused : says_harts status ≡ false → (reason : Refused)
      × (exit_status_of reason ≡ status)
      × IsRefusal line.harts line.command config program (uncommented_for line.command second) lines reason

-- The tests of a line are several: they have more names than one, or one of a list, or lines are printed of them in place
-- of states.
abbrev pub has_several : Command → Bool
has_several (Litmus litmus) = litmus.several || is_summed litmus
has_several _ = false

-- They may be: one name may be that of a folder, but where a file is written of its test, or that is run.
abbrev pub may_be_several : LitmusCommand → Bool
may_be_several litmus = (litmus.several || is_summed litmus)
    || not (is_some (written_for_test litmus) || is_some litmus.run)

-- What a line of litmus tests of so many names came to, with its other files as they were read: each name has come to a
-- test at least, or to why it is none, and what was printed is what these come to, of some texts.
abbrev pub SuiteHasCome : LitmusCommand → ℕ → Read → Read → Option (List ℕ) → Option (List ℕ) → ℕ → Type 0
SuiteHasCome litmus names config summary old new status =
    SuiteLineComesTo IsGiven IsHeard litmus config summary names 0 old new status

pub record SuiteIsRefused (litmus : LitmusCommand) (config summary : Read) (status : ℕ) : Type 0 where
  pub why : SuiteRefused
  pub has_status : suite_status_of why ≡ status
  pub refused : IsSuiteLineRefusal litmus config summary why

-- The names are those of the words that asked for the line.
pub record HasTested (words : List (List ℕ)) (line : Line) (old new : Option (List ℕ)) (status : ℕ) : Type 0 where
  pub litmus : LitmusCommand
  pub is_litmus : line.command ≡ Litmus litmus
  pub several : may_be_several litmus ≡ true
  pub config : Read
  pub summary : Read
  pub has_config : IsReadAs (files_of line).config config
  pub has_summary : IsReadAs (files_of line).second summary
  pub known : IsKnown status
  pub ended : SuiteIsRefused litmus config summary status
      ⊎ SuiteHasCome litmus (length (tests_named words)) config summary old new status

-- Words asked for a line, and it was performed with this exit status.
pub record HavePerformed {F S G P : Type 0} (has_failed : F → Bool) (predicts : P → ℕ → ℕ → ℕ → ℕ → P → Type 0)
    (by : Program S G P) (words : List (List ℕ)) (old new : Option (List ℕ)) (status : ℕ) : Type 0 where
  pub line : Line
  pub asked : Asks words line
  pub performed : ((has_several line.command ≡ false) × HasPerformed has_failed predicts by line old new status)
      ⊎ HasTested words line old new status

-- Words were refused with this exit status, and help and the version are printed.
pub record AreRefused (words : List (List ℕ)) (old new : Option (List ℕ)) (status : ℕ) : Type 0 where
  pub why : WordsRefused
  pub refused : AreWordsRefusedFor words why
  pub has_status : IsWordsStatus why status
  pub told : HaveTold why old new status

-- One of the two came of words with this exit status.
abbrev pub HaveEnded : {F S G P : Type 0} → (F → Bool) → (P → ℕ → ℕ → ℕ → ℕ → P → Type 0) → Program S G P
    → List (List ℕ) → Option (List ℕ) → Option (List ℕ) → ℕ → Type 0
HaveEnded has_failed predicts by words old new status =
    HavePerformed has_failed predicts by words old new status ⊎ AreRefused words old new status
