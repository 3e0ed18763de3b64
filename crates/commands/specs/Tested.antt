-- A litmus test, whose states are listed, or counted over runs of the core. (This project's own choice.)
use Rattle.std.specs.Prelude.{ℕ, List, Option, Some, None}
use Rattle.sim_inputs.specs.{declared.settings.Settings.Settings, declared.line.LitmusCommand.LitmusCommand}
use Rattle.command_parts.specs.declared.refused.Refused.{Refused}
use Rattle.plain_commands.specs.Litmus.{IsLitmusRefusal, LitmusComesTo}
use Rattle.core_commands.specs.TestRuns.{IsTestRunsRefusal, TestRunsComeTo}

-- When each refusal comes, and what it comes to, by how many runs are asked for.
abbrev pub IsTestedRefusal : Option ℕ → List ℕ → Settings → LitmusCommand → Refused → Type 0
IsTestedRefusal None text settings litmus reason = IsLitmusRefusal text settings litmus reason
IsTestedRefusal (Some times) text settings litmus reason = IsTestRunsRefusal text settings reason

abbrev pub TestedComesTo : Option ℕ → List ℕ → Settings → LitmusCommand → (List ℕ → Type 0) → Option (List ℕ)
    → Option (List ℕ) → ℕ → Type 0
TestedComesTo None text settings litmus Put old new status = LitmusComesTo text settings litmus Put old new status
TestedComesTo (Some times) text settings litmus Put old new status =
    TestRunsComeTo text settings litmus times (λ cores. Unit {0}) Put old new status
