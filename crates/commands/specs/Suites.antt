-- What the program owes on a line of several litmus tests with its files as they were read: when each refusal comes, and
-- what the line comes to. (This project's own choice.)
use Rattle.std.specs.Prelude.{◌≡◌, ◌⊎◌, ℕ, true, false, List, Option, is_some, Err}
use Rattle.litmus_suites.specs.Sources.{GivenTest}
use Rattle.litmus_suites.specs.Reading.{AreLinesOf, IsFirstRefused}
use Rattle.litmus_suites.specs.Counting.{no_counts, no_differences}
use Rattle.plain_commands.specs.Suite.{SuiteComesTo}
use Rattle.plain_commands.specs.declared.telling.Telling.{Telling}
use Rattle.plain_commands.specs.declared.telling.Telling.TheVariants.{States, Lines}
use Rattle.plain_commands.specs.declared.telling.LineTelling.TheVariants.{Summary, Comparison}
use Rattle.sim_inputs.specs.declared.line.LitmusCommand.{LitmusCommand}
use Rattle.command_parts.specs.declared.refused.Refused.{Refused}
use Rattle.command_parts.specs.declared.refused.Refused.TheVariants.{Config, File, Memory, Output}
use Rattle.command_parts.specs.declared.refused.Unread.TheVariants as unread
use Rattle.command_parts.specs.Refused.{exit_status_of}
use Rattle.command_parts.specs.Inputs.{IsNoConfiguration, OfFile, OfSettings, Read}
use Rattle.commands.specs.declared.suites.SuiteRefused.{SuiteRefused}
use Rattle.commands.specs.declared.suites.SuiteRefused.TheVariants as refused

-- What is printed of the tests: their states, their lines, or what differs from the summary that was read.
abbrev pub IsTellingOf : LitmusCommand → Read → Telling → Type 0
IsTellingOf litmus summary States = (litmus.summary ≡ false) × (is_some litmus.expect ≡ false)
IsTellingOf litmus summary (Lines (Summary counts)) = (litmus.summary ≡ true) × (counts ≡ no_counts)
IsTellingOf litmus summary (Lines (Comparison expected differences)) = (is_some litmus.expect ≡ true)
    × (differences ≡ no_differences) × OfFile summary (λ text. AreLinesOf text expected.lines.items)

-- What the line comes to: the configuration's settings are a core's, and the suite has come to what is owed on it, of these
-- settings.
abbrev pub SuiteLineComesTo : {S : Type 0} → (S → Option GivenTest → S → Type 0) → (S → Refused → S → Type 0)
    → LitmusCommand → Read → Read → S → S → Option (List ℕ) → Option (List ℕ) → ℕ → Type 0
SuiteLineComesTo gives hears litmus config summary source left old new status = OfSettings config
    (λ settings. (telling : Telling) × IsTellingOf litmus summary telling
    × SuiteComesTo gives hears settings litmus source left telling old new status)

-- When each refusal comes of the line itself: the configuration is looked at first, then the summary. Of memory and of the
-- output nothing is said.
abbrev pub IsSuiteLineFault : LitmusCommand → Read → Read → Refused → Type 0
IsSuiteLineFault litmus config summary Config = OfFile config IsNoConfiguration
IsSuiteLineFault litmus config summary File = (config ≡ Err unread.File)
    ⊎ OfSettings config (λ settings. (is_some litmus.expect ≡ true) × (summary ≡ Err unread.File))
IsSuiteLineFault litmus config summary Memory = Unit {0}
IsSuiteLineFault litmus config summary Output = Unit {0}
IsSuiteLineFault litmus config summary _ = ⊥

abbrev pub IsSuiteLineRefusal : LitmusCommand → Read → Read → SuiteRefused → Type 0
IsSuiteLineRefusal litmus config summary (refused.Line reason) = IsSuiteLineFault litmus config summary reason
IsSuiteLineRefusal litmus config summary (refused.Summary number) =
    OfSettings config (λ settings. OfFile summary (λ text. IsFirstRefused text number))

-- The exit status of a refusal.
abbrev pub suite_status_of : SuiteRefused → ℕ
suite_status_of (refused.Line reason) = exit_status_of reason
suite_status_of (refused.Summary number) = 2
