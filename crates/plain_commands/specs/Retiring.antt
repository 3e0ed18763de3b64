-- What a core retires that was asked by a schedule which was printed.
use Rattle.std.specs.Prelude.{◌≡◌, ℕ, List}
use Rattle.elf_image.specs.Image.{ProgramImage}
use Rattle.elf_image.specs.Loaded.{IsImageOf}
use Rattle.rv_instr.specs.Decode.{decoded}
use Rattle.core_state.specs.{Setup.setup_of, View.CoreView}
use Rattle.actors.specs.Prediction.{static_guess}
use Rattle.scripts.specs.{Order.IsOrder, Session.AreAskedWith}
use Rattle.schedules.specs.Retiring.{RetiresOrder}
use Rattle.sim_inputs.specs.declared.settings.Settings.{Settings}
use Rattle.command_parts.specs.{Refused.PassesAll}
use Rattle.plain_commands.specs.{Schedule.HasSchedule}

-- The core's history retires the order that a text says.
pub record RetiresOrderIn (order : List ℕ) (core : CoreView) : Type 0 where
  pub harts : List ℕ
  pub is_order : IsOrder order harts
  pub retires : RetiresOrder core.setup harts core.past

-- A core of an image's file and some settings that was asked by the schedule which was printed of
-- both retires the order.
abbrev pub PrintedSchedulesAreRetired : {P : Type 0} → (P → ℕ → ℕ → ℕ → ℕ → P → Type 0) → Type 0
PrintedSchedulesAreRetired {P} predicts =
    (settings : Settings) (file : List ℕ) (program : ProgramImage) (order script : List ℕ)
    → PassesAll file settings.ram → IsImageOf file settings.ram program
    → HasSchedule settings program order script
    → (before after : P) (core : CoreView) (text : List ℕ)
    → IsImageOf file settings.ram core.setup.image
    → core.setup ≡ setup_of core.setup.image settings.config → core.limit ≡ settings.limit
    → AreAskedWith predicts before after script core text
    → RetiresOrderIn order core

-- What the program's own predictor guesses.
abbrev pub guesses_statically : {P : Type 0} → P → ℕ → ℕ → ℕ → ℕ → P → Type 0
guesses_statically before hart pc word guessed after = guessed ≡ static_guess pc (decoded word)
