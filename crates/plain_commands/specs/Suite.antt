-- Many litmus tests in one command. (This project's own choice, after herd's lists of tests.)
use Rattle.std.specs.Prelude.{◌≡◌, ◌⊎◌, IsTrue, ℕ, ◌-◌, Bool, List, [], ◌∷◌, ◌++◌, length, map, Option, Some, None, is_some, Ok, Err}
use Rattle.std.specs.Io.KnownBytes.{Appends, Keeps}
use Rattle.elf_image.specs.Image.{ProgramImage}
use Rattle.watched_outcomes.specs.{declared.watch.Watch.Watch}
use Rattle.outcomes.specs.{Found.Found, Found.InEachSetup, Found.IsExactList, Found.CoversCores, Found.IsOnce, Refusals.IsBeyond}
use Rattle.shown_text.specs.Shown.{shown}
use Rattle.litmus_tests.specs.declared.test.LitmusTest.{LitmusTest}
use Rattle.litmus_tests.specs.{WellFormed.IsWellFormed}
use Rattle.litmus_reading.specs.Texts.{IsTextOf}
use Rattle.litmus_text.specs.Verdict.{verdict_of}
use Rattle.litmus_text.specs.declared.verdict.StatesVerdict.{StatesVerdict}
use Rattle.litmus_suites.specs.Sources.{GivenTest, no_test_status}
use Rattle.litmus_suites.specs.Statuses.{worse, worst}
use Rattle.litmus_suites.specs.Lines.{line_text, verdict_text}
use Rattle.litmus_suites.specs.Expecting.{counterpart, gone_count, gone_text, met_of, met_text, taken}
use Rattle.litmus_suites.specs.Counting.{counted, counted_refused, counts_text, differences_text, noted, noted_refused}
use Rattle.litmus_suites.specs.Counting.{status_of as status_of_differences}
use Rattle.litmus_suites.specs.declared.verdict.{TestLine.TestLine, Verdict.Verdict}
use Rattle.litmus_suites.specs.declared.verdict.Verdict.TheVariants.{Whole, NotComplete}
use Rattle.litmus_suites.specs.declared.expectation.{Expectation.Expectation, Met.Met}
use Rattle.litmus_suites.specs.declared.counts.Differences.{Differences}
use Rattle.sim_inputs.specs.{declared.settings.Settings.Settings, declared.line.LitmusCommand.LitmusCommand}
use Rattle.command_parts.specs.declared.refused.Refused.{Refused}
use Rattle.command_parts.specs.declared.refused.Refused.TheVariants.{Memory, Output}
use Rattle.command_parts.specs.Refused.{exit_status_of}
use Rattle.report_lines.specs.Statuses.{says_harts}
use Rattle.plain_commands.specs.Litmus.{IsLitmusRefusal, IsSearched, LitmusComesTo}
use Rattle.plain_commands.specs.declared.telling.{Telling.Telling, LineTelling.LineTelling}
use Rattle.plain_commands.specs.declared.telling.Telling.TheVariants.{States, Lines}
use Rattle.plain_commands.specs.declared.telling.LineTelling.TheVariants.{Summary, Comparison}

-- What is said of the numbers of all final states.
abbrev pub said_of : StatesVerdict → Bool → Verdict
said_of states stuck = Whole states.held (states.count - states.held) states.is_as_asked stuck

-- Of all final states of a test (`PrintsAllStates`) these numbers are said, those of their text (`states_text`), and
-- whether there is an order to a state that has no way to an end.
pub record SaysAllStates (test : LitmusTest) (verdict : Verdict) : Type 0 where
  pub image : ProgramImage
  pub watch : Watch
  pub searched : IsSearched test image watch
  pub found : Found
  pub all : InEachSetup image (length test.threads.items) (λ setup. IsExactList setup watch found)
  pub cores : InEachSetup image (length test.threads.items) (λ setup. CoversCores setup watch found)
  pub once : IsOnce found
  pub says : verdict ≡ said_of (verdict_of test found.listed) (is_some found.stuck)

-- More states than were to be looked at can be reached, and that is said.
pub record SaysMoreStates (test : LitmusTest) (states : ℕ) (verdict : Verdict) : Type 0 where
  pub image : ProgramImage
  pub watch : Watch
  pub searched : IsSearched test image watch
  pub beyond : IsBeyond image (length test.threads.items) states
  pub says : verdict ≡ NotComplete

abbrev pub Says : LitmusTest → ℕ → Verdict → Type 0
Says test states verdict = SaysAllStates test verdict ⊎ SaysMoreStates test states verdict

-- So it is said in a line of the test that the text is, by its name.
pub record IsSummaryOf (text : List ℕ) (states : ℕ) (line : TestLine) : Type 0 where
  pub test : LitmusTest
  pub is_text : IsTextOf text test
  pub well_formed : IsWellFormed test
  pub named : line.name.items ≡ shown test.name.items
  pub says : Says test states line.verdict

abbrev pub status_of : Verdict → ℕ
status_of (Whole held others asked stuck) = 0
status_of NotComplete = 3

-- What is printed of a line, and how it is counted: the line; or what differs from the line that the test takes.
abbrev pub IsTold : TestLine → LineTelling → LineTelling → Option (List ℕ) → Option (List ℕ) → Type 0
IsTold line (Summary counts) after old new = (after ≡ Summary (counted line.verdict counts))
    × Appends old new (line_text line.name.items line.verdict)
IsTold line (Comparison expected differences) after old new =
    let is = verdict_text line.verdict in let was = counterpart line.name.items expected.lines.items in
    (left : Expectation) × (left.lines.items ≡ taken line.name.items expected.lines.items)
    × (after ≡ Comparison left (noted (met_of was is) differences))
    × Appends old new (met_text line.name.items was is)

-- A test was made, and what is wanted of it is printed: of each all that is printed of it where it is alone, or a line. No
-- file is written of one of several: what is put into the one that is made for it is lost.
pub record IsSummed (text : List ℕ) (states : ℕ) (before after : LineTelling) (old new : Option (List ℕ)) (status : ℕ)
    : Type 0 where
  pub line : TestLine
  pub summary : IsSummaryOf text states line
  pub told : IsTold line before after old new
  pub is : status ≡ status_of line.verdict

abbrev pub IsMade : List ℕ → Settings → LitmusCommand → Telling → Telling → Option (List ℕ) → Option (List ℕ) → ℕ
    → Type 0
IsMade text settings command States after old new status = (after ≡ States)
    × LitmusComesTo text settings command (λ bytes. Unit {0}) old new status
IsMade text settings command (Lines before) after old new status = (left : LineTelling) × (after ≡ Lines left)
    × IsSummed text command.states before left old new status

-- The output failed; or the test is refused, and then nothing is printed.
abbrev pub IsRefusedTest : Settings → LitmusCommand → List ℕ → Telling → Telling → Option (List ℕ) → Option (List ℕ)
    → Refused → Type 0
IsRefusedTest settings command text before after old new reason = (reason ≡ Output)
    ⊎ (IsLitmusRefusal text settings command reason × ((after ≡ before) × (new ≡ old)))

-- One more test that is this beside the line that it takes.
abbrev pub noted_line : Met → LineTelling → LineTelling
noted_line met (Summary counts) = Summary counts
noted_line met (Comparison expected differences) = Comparison expected (noted met differences)

-- One more test that is refused, or isn't there.
abbrev pub refused_line : LineTelling → LineTelling
refused_line (Summary counts) = Summary (counted_refused counts)
refused_line (Comparison expected differences) = Comparison expected (noted_refused differences)

abbrev pub refused_more : Telling → Telling
refused_more States = States
refused_more (Lines lines) = Lines (refused_line lines)

-- What came of a test that a source has given, which stands so behind that: its exit status, what is printed, and how the
-- source stands then. A refused one is told to the source.
pub record HasMade (settings : Settings) (command : LitmusCommand) (text : List ℕ) (before after : Telling)
    (old new : Option (List ℕ)) (status : ℕ) : Type 0 where
  pub printed : Option (List ℕ)
  pub made : IsMade text settings command before after old printed status
  pub flushed : Keeps printed new

pub record HasRefused {S : Type 0} (hears : S → Refused → S → Type 0) (settings : Settings) (command : LitmusCommand)
    (text : List ℕ) (given left : S) (before after : Telling) (old new : Option (List ℕ)) (status : ℕ) : Type 0 where
  pub reason : Refused
  pub refusal : IsLitmusRefusal text settings command reason
  pub heard : hears given reason left
  pub counts : after ≡ refused_more before
  pub unprinted : new ≡ old
  pub is : status ≡ exit_status_of reason

abbrev pub CameOf : {S : Type 0} → (S → Refused → S → Type 0) → Settings → LitmusCommand → GivenTest → S → S → Telling
    → Telling → Option (List ℕ) → Option (List ℕ) → ℕ → Type 0
CameOf hears settings command (Ok text) given left before after old new status =
    ((left ≡ given) × HasMade settings command text before after old new status)
    ⊎ HasRefused hears settings command text given left before after old new status
CameOf hears settings command (Err why) given left before after old new status = (left ≡ given) × (after ≡ refused_more before)
    × (new ≡ old) × (status ≡ no_test_status why)

-- The tests that a source gives, with the exit status of each, the newest first: what came of them all.
abbrev pub HaveCome : {S : Type 0} → (S → Option GivenTest → S → Type 0) → (S → Refused → S → Type 0) → Settings
    → LitmusCommand → List (GivenTest × ℕ) → S → S → Telling → Telling → Option (List ℕ) → Option (List ℕ) → Type 0
HaveCome gives hears settings command [] source left before after old new = (left ≡ source) × (after ≡ before) × (new ≡ old)
HaveCome {S} gives hears settings command (test ∷ past) source left before after old new = (earlier : S) × (given : S)
    × (between : Telling) × (mid : Option (List ℕ))
    × HaveCome gives hears settings command past source earlier before between old mid
    × gives earlier (Some test.0) given × CameOf hears settings command test.0 given left between after mid new test.1

-- All of them have come, and this is the worst exit status.
pub record AllHaveCome {S : Type 0} (gives : S → Option GivenTest → S → Type 0) (hears : S → Refused → S → Type 0)
    (settings : Settings) (command : LitmusCommand) (source left : S) (before after : Telling) (old new : Option (List ℕ))
    (status : ℕ) : Type 0 where
  pub tests : List (GivenTest × ℕ)
  pub last : S
  pub come : HaveCome gives hears settings command tests source last before after old new
  pub ended : gives last None left
  pub worst_is : status ≡ worst (map (λ test. test.1) tests)

-- What is printed behind them, and the exit status of that.
abbrev pub with_gone : Expectation → Differences → Differences
with_gone expected differences = record differences { gone = gone_count expected.lines.items }

abbrev pub AreFinished : LineTelling → Option (List ℕ) → Option (List ℕ) → ℕ → Type 0
AreFinished (Summary counts) old new status = Appends old new (counts_text counts) × (status ≡ 0)
AreFinished (Comparison expected differences) old new status =
    Appends old new (gone_text expected.lines.items ++ differences_text (with_gone expected differences))
    × (status ≡ status_of_differences (with_gone expected differences))

abbrev pub IsFinished : Telling → Option (List ℕ) → Option (List ℕ) → ℕ → Type 0
IsFinished States old new status = (new ≡ old) × (status ≡ 0)
IsFinished (Lines lines) old new status = AreFinished lines old new status

-- The whole of it.
pub record SuiteComesTo {S : Type 0} (gives : S → Option GivenTest → S → Type 0) (hears : S → Refused → S → Type 0)
    (settings : Settings) (command : LitmusCommand) (source left : S) (telling : Telling) (old new : Option (List ℕ))
    (status : ℕ) : Type 0 where
  pub after : Telling
  pub mid : Option (List ℕ)
  pub printed : Option (List ℕ)
  pub worst : ℕ
  pub last : ℕ
  pub all : AllHaveCome gives hears settings command source left telling after old mid worst
  pub finished : IsFinished after mid printed last
  pub flushed : Keeps printed new
  pub is : status ≡ worse worst last

-- Its exit status is one of the program's.
abbrev pub IsKnown : ℕ → Type 0
IsKnown status = IsTrue (says_harts status) ⊎ (status ≡ 2) ⊎ (status ≡ 4) ⊎ (status ≡ 5)

-- It doesn't come to its end only where memory is wanting, or the output failed.
abbrev pub IsSuiteRefusal : Refused → Type 0
IsSuiteRefusal Output = Unit {0}
IsSuiteRefusal Memory = Unit {0}
IsSuiteRefusal _ = ⊥
