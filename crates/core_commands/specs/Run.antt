-- The command `run`: a core asked by a thread for each actor. (This project's own choice.)
use Rattle.std.specs.Prelude.{◌≡◌, ◌⊎◌, ℕ, List, Option, IsTrue, length, sum}
use Rattle.elf_image.specs.Image.{ProgramImage}
use Rattle.core_state.specs.{Setup.setup_of, View.CoreView}
use Rattle.smt_core.specs.{declared.finished.Finished.Finished, Counts.AreCounts, Shown.Shown}
use Rattle.actors.specs.{Roles.HaveEveryRole, declared.refused.RunRefused.RunRefused}
use Rattle.actors.specs.declared.refused.RunRefused.TheVariants as runs
use Rattle.text_fields.specs.{Printing.Prints}
use Rattle.sim_inputs.specs.declared.settings.Settings.{Settings}
use Rattle.report_lines.specs.Lines.{status_number}
use Rattle.command_parts.specs.declared.refused.Refused.{Refused}
use Rattle.command_parts.specs.declared.refused.Refused.TheVariants.{Config, Memory, Thread, Output}
use Rattle.command_parts.specs.Refused.{AreAccepted, AreRefused}
use Rattle.address_labels.specs.Labels.{Marks}
use Rattle.core_commands.specs.Wanted.{Wants}
use Rattle.core_commands.specs.Account.{IsAccount, idle_of, statuses_of}

-- No actor has some role.
abbrev pub LackARole : Settings → Type 0
LackARole settings = HaveEveryRole settings.config.roles.items → ⊥

-- What is refused where the actors' run is.
abbrev pub run_refusal : RunRefused → Refused
run_refusal runs.Config = Config
run_refusal runs.Roles = Config
run_refusal runs.Memory = Memory
run_refusal runs.Thread = Thread

-- When each refusal comes: the sizes of the core are looked at first, then the roles. The output is
-- refused only behind them. Of memory and of threads nothing is said.
abbrev pub IsRunRefusal : Settings → Refused → Type 0
IsRunRefusal settings Config =
    AreRefused settings ⊎ (AreAccepted settings × LackARole settings)
IsRunRefusal settings Memory = Unit {0}
IsRunRefusal settings Thread = Unit {0}
IsRunRefusal settings Output = AreAccepted settings × (LackARole settings → ⊥)
IsRunRefusal settings _ = ⊥

-- What is left of a run of an image: a core of it and of these settings, one of those that may be shown. The passes'
-- counts add up to its events, and each is its actor's where that is told.
pub record IsRunOf (settings : Settings) (image : ProgramImage) (finished : Finished) : Type 0 where
  pub setup : finished.core.setup ≡ setup_of image settings.config
  pub limit : finished.core.limit ≡ settings.limit
  pub own : IsTrue finished.own
  pub counted : sum finished.counts ≡ length finished.core.past
  pub told : IsTrue finished.told → AreCounts finished.core.past finished.counts
  pub shown : Shown finished.core

-- What the command comes to. No role is without an actor. There is a core of this image and these
-- settings, one of those that may be shown. Its trace is written where that is wanted (`Traced`).
-- What was printed is what is printed of this core, with these numbers of idle asks of its actors; the exit status is
-- that of its harts.
pub record RunComesTo (settings : Settings) (image : ProgramImage) (wanted : Wants) (marks : Marks)
    (Traced : CoreView → Type 0) (old new : Option (List ℕ)) (exit_status : ℕ) : Type 0 where
  pub accepted : AreAccepted settings
  pub manned : LackARole settings → ⊥
  pub core : CoreView
  pub setup : core.setup ≡ setup_of image settings.config
  pub limit : core.limit ≡ settings.limit
  pub shown : Shown core
  pub traced : Traced core
  pub idle : List ℕ
  pub printed : Prints old new (IsAccount core (idle_of core idle) wanted marks)
  pub harts : exit_status ≡ status_number (statuses_of core)

-- The same, and the numbers of idle asks are the ones that are told here.
abbrev pub RunTells : Settings → ProgramImage → Wants → Marks → (CoreView → Type 0) → Option (List ℕ)
    → Option (List ℕ) → List ℕ → ℕ → Type 0
RunTells settings image wanted marks Traced old new idle exit_status =
    (run : RunComesTo settings image wanted marks Traced old new exit_status) × (run.idle ≡ idle)
