-- The command `schedule`: its refusals from those of the order and of the schedule, and what it comes to.
use Rattle.std.specs.Prelude.{◌≡◌, ℕ, List, Option}
use Rattle.std.proofs.Common.{refl, subst}
use Rattle.std.specs.Io.KnownBytes.{Appends}
use Rattle.elf_image.specs.Image.{ProgramImage}
use Rattle.core_state.specs.Setup.{setup_of}
use Rattle.schedules.specs.Schedules.{IsScheduleOf}
use Rattle.scripts.specs.Order.{IsOrder}
use Rattle.sim_inputs.specs.declared.settings.Settings.{Settings}
use Rattle.plain_commands.specs.Schedule.{HasSchedule, ScheduleComesTo}

pub has_schedule : (settings : Settings) (image : ProgramImage) (order harts listed text : List ℕ)
    → IsOrder order harts → listed ≡ harts
    → IsScheduleOf (setup_of image settings.config) settings.limit listed text → HasSchedule settings image order text
has_schedule settings image order harts listed text read same is = record {
  harts = harts;
  is_order = read;
  schedule = subst (λ hs. IsScheduleOf (setup_of image settings.config) settings.limit hs text) same is;
}

pub comes_to : (settings : Settings) (image : ProgramImage) (order harts listed text : List ℕ)
    (old new : Option (List ℕ)) → IsOrder order harts → listed ≡ harts
    → IsScheduleOf (setup_of image settings.config) settings.limit listed text → Appends old new text
    → ScheduleComesTo settings image order old new 0
comes_to settings image order harts listed text old new read same is written = record {
  printed = (text, has_schedule settings image order harts listed text read same is, written);
  zero = refl;
}
