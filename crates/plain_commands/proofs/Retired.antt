-- What a core retires by a schedule that was printed.
use Rattle.std.specs.Prelude.{◌≡◌, ℕ}
use Rattle.std.proofs.Common.{sym, ap, subst, ◌∙◌}
use Rattle.rv_instr.specs.Decode.{decoded}
use Rattle.core_state.specs.Setup.{setup_of}
use Rattle.actors.specs.Prediction.{static_guess}
use Rattle.schedules.specs.Retiring.{RetiresOrder, SchedulesAreRetired, OfFunctions}
use Rattle.plain_commands.specs.Retiring.{PrintedSchedulesAreRetired, guesses_statically}
use Rattle.command_parts.proofs.OneImage.{one_image}

-- The core is of the image that the schedule was made for, since the file has only one.
printed_by : {P : Type 0} (predicts : P → ℕ → ℕ → ℕ → ℕ → P → Type 0) → SchedulesAreRetired predicts
    → PrintedSchedulesAreRetired predicts
printed_by predicts law settings file program order script passes loaded has before after core text is_image own same
    asked =
    let one = one_image file settings.ram core.setup.image program passes is_image loaded in
    let setup : core.setup ≡ setup_of program settings.config =
    own ∙ ap (λ image. setup_of image settings.config) one in
    record {
      harts = has.harts;
      is_order = has.is_order;
      retires = subst (λ s. RetiresOrder s has.harts core.past) (sym setup)
          (law (setup_of program settings.config) settings.limit has.harts script has.schedule before after core
          text setup same asked);
    }

pub printed : {P : Type 0} (predicts : P → ℕ → ℕ → ℕ → ℕ → P → Type 0)
    → OfFunctions predicts (SchedulesAreRetired predicts) → OfFunctions predicts (PrintedSchedulesAreRetired predicts)
printed predicts law guess function = printed_by predicts (law guess function)

-- ---- The program's own predictor

pub statically : {P : Type 0} (law : Type 0) → OfFunctions {P = P} guesses_statically law → law
statically law of =
    of (λ hart pc word. static_guess pc (decoded word)) (λ before hart pc word guessed after is. is)
