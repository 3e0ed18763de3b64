-- The command `litmus --run`: so many runs of a litmus test's image on the core, counted by the final states to which they
-- come. (This project's own choice, after litmus7.)
use Rattle.std.specs.Prelude.{◌≡◌, ◌⊎◌, ℕ, nat_lt, Bool, if◌then◌else◌, List, Option, length, map}
use Rattle.std.specs.{Io.KnownBytes.Appends, List.AllByRecursion}
use Rattle.elf_image.specs.Image.{ProgramImage}
use Rattle.core_state.specs.View.{CoreView}
use Rattle.outcomes.specs.{Found.Found, Found.Told, Found.InEachSetup, Found.IsExactList, Found.CoversCores, Found.IsOnce}
use Rattle.watched_outcomes.specs.{declared.watch.Watch.Watch, Endings.Ending}
use Rattle.stress_runs.specs.Ends.{end_of}
use Rattle.litmus_tests.specs.{declared.test.LitmusTest.LitmusTest, WellFormed.IsWellFormed}
use Rattle.litmus_reading.specs.Texts.{IsTextOf}
use Rattle.litmus_histograms.specs.{Kinds.is_kind, Counting.in_runs, Text.histogram_text, Sums.AddsUp}
use Rattle.litmus_histograms.specs.declared.kinds.RunKind.TheVariants.{NotEnded}
use Rattle.sim_inputs.specs.{declared.settings.Settings.Settings, declared.line.LitmusCommand.LitmusCommand}
use Rattle.command_parts.specs.{Refused.AreAccepted, declared.refused.Refused.Refused}
use Rattle.command_parts.specs.declared.refused.Refused.TheVariants as reasons
use Rattle.plain_commands.specs.{Litmus.IsSearched, Litmus.IsTextRefusal, Litmus.KeepsImage, Litmus.PrintsIncompleteTest}
use Rattle.plain_commands.specs.StateOrders.{settings_for}
use Rattle.core_commands.specs.{Run.LackARole, Run.IsRunRefusal, Making.IsOneRun, Stress.runs_of}

-- The exit status: 3 where a run hasn't ended, else 0.
abbrev pub histogram_status : LitmusTest → ((Ending → Bool) → ℕ) → ℕ
histogram_status test count = if nat_lt 0 (count (is_kind test NotEnded)) then 3 else 0

-- There are the cores of so many runs of the image, the newest first, each of which was made for this (`Made`), and what
-- was printed is the histogram of their ends
-- over the states that are listed: the counts are of these ends.
pub record HasCounted (test : LitmusTest) (settings : Settings) (image : ProgramImage) (watch : Watch)
    (listed : List Told) (runs : ℕ) (Made : List CoreView → Type 0) (old new : Option (List ℕ)) (exit_status : ℕ) : Type 0 where
  pub accepted : AreAccepted settings
  pub manned : LackARole settings → ⊥
  pub cores : List CoreView
  pub many : length cores ≡ runs
  pub are : AllByRecursion (IsOneRun settings image) cores
  pub made : Made cores
  pub printed : Appends old new (histogram_text test (in_runs (map (end_of watch) cores)) listed)
  pub stands : exit_status ≡ histogram_status test (in_runs (map (end_of watch) cores))

-- The states that are listed are all final states of the test's image: those in which it can end, whatever order its harts
-- take, each once, and every core that runs the image to its end ends in one of them. The runs are counted over these, and
-- the counts add up. `Put` says what was put into the file of the image.
pub record PrintsHistogram (test : LitmusTest) (settings : Settings) (command : LitmusCommand) (times : ℕ)
    (Made : List CoreView → Type 0) (Put : List ℕ → Type 0) (old new : Option (List ℕ)) (exit_status : ℕ) : Type 0 where
  pub image : ProgramImage
  pub watch : Watch
  pub searched : IsSearched test image watch
  pub kept : KeepsImage test command image Put
  pub found : Found
  pub all : InEachSetup image (length test.threads.items) (λ setup. IsExactList setup watch found)
  pub covers : InEachSetup image (length test.threads.items) (λ setup. CoversCores setup watch found)
  pub once : IsOnce found
  pub counted : HasCounted test settings image watch found.listed (runs_of times) Made old new exit_status
  pub adds_up : AddsUp test (map (end_of watch) counted.cores) found.listed

-- What the command comes to with a test; and with the test that the text is, with the settings for it.
abbrev pub RunsComeTo : LitmusTest → Settings → LitmusCommand → ℕ → (List CoreView → Type 0) → (List ℕ → Type 0)
    → Option (List ℕ) → Option (List ℕ) → ℕ → Type 0
RunsComeTo test settings command times Made Put old new status =
    PrintsHistogram test settings command times Made Put old new status ⊎ PrintsIncompleteTest test command Put old new status

pub record TestRunsComeTo (text : List ℕ) (settings : Settings) (command : LitmusCommand) (times : ℕ)
    (Made : List CoreView → Type 0) (Put : List ℕ → Type 0) (old new : Option (List ℕ)) (exit_status : ℕ) : Type 0 where
  pub test : LitmusTest
  pub is_text : IsTextOf text test
  pub well_formed : IsWellFormed test
  pub comes : RunsComeTo test (settings_for test settings) command times Made Put old new exit_status

-- When each refusal comes: the text is looked at first, then it is as for one run of the test that it is.
abbrev pub IsRunsRefusal : Settings → Refused → Type 0
IsRunsRefusal settings reasons.Output = Unit {0}
IsRunsRefusal settings reason = IsRunRefusal settings reason

abbrev pub IsTestRunsRefusal : List ℕ → Settings → Refused → Type 0
IsTestRunsRefusal text settings why = IsTextRefusal text why
    ⊎ ((test : LitmusTest) × IsTextOf text test × IsWellFormed test × IsRunsRefusal (settings_for test settings) why)
