-- What `explain` comes to on a trace. (This project's own choice.)
use Rattle.std.specs.Prelude.{◌≡◌, ℕ, true, List}
use Rattle.elf_image.specs.Image.{ProgramImage}
use Rattle.sim_inputs.specs.{declared.settings.Settings.Settings}
use Rattle.command_parts.specs.{declared.refused.Refused.Refused}
use Rattle.core_commands.specs.Check.{AreHistory, OfEvents}
use Rattle.core_commands.specs.Told.{IsCheckRefusalWith}

-- It is refused as the command `check` refuses it with `--why`.
abbrev pub IsJudgementRefusal : Settings → ProgramImage → List ℕ → Refused → Type 0
IsJudgementRefusal settings image trace reason = IsCheckRefusalWith true settings image trace reason

-- The trace is accepted: a history of the core that it is of.
pub record JudgementComesTo (settings : Settings) (image : ProgramImage) (trace : List ℕ) (exit_status : ℕ) : Type 0
  where
    pub history : OfEvents settings image trace AreHistory
    pub zero : exit_status ≡ 0
