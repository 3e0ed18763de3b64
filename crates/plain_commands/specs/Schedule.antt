-- The command `schedule`: the script that makes the core retire in an order of harts. (This
-- project's own choice.)
use Rattle.std.specs.Prelude.{◌≡◌, ℕ, List, Option}
use Rattle.elf_image.specs.Image.{ProgramImage}
use Rattle.smt_model.specs.Setup.{Setup}
use Rattle.core_state.specs.Setup.{setup_of}
use Rattle.schedules.specs.{declared.refused.ScheduleRefused.ScheduleRefused}
use Rattle.schedules.specs.{Refusals.IsScheduleRefusedFor, Schedules.IsScheduleOf}
use Rattle.schedules.specs.declared.refused.ScheduleRefused.TheVariants as why
use Rattle.scripts.specs.Order.{IsOrder, IsFirstNoHart}
use Rattle.text_fields.specs.{Printing.Prints}
use Rattle.sim_inputs.specs.{declared.settings.Settings.Settings}
use Rattle.command_parts.specs.{declared.refused.Refused.Refused}
use Rattle.plain_commands.specs.{Plain.OfOrder}
use Rattle.command_parts.specs.declared.refused.Refused.TheVariants as reason

-- The text is a schedule of the order for the core of this image and these settings: a script by
-- which that core retires, in this order, what the plain machine does in it.
pub record HasSchedule (settings : Settings) (image : ProgramImage) (order : List ℕ)
    (text : List ℕ) : Type 0 where
  pub harts : List ℕ
  pub is_order : IsOrder order harts
  pub schedule : IsScheduleOf (setup_of image settings.config) settings.limit harts text

-- The order has no schedule for the core of this image and these settings, for this reason.
abbrev pub HasNoSchedule : Settings → ProgramImage → List ℕ → ScheduleRefused → Type 0
HasNoSchedule settings image order because = OfOrder order
    (λ harts. IsScheduleRefusedFor (setup_of image settings.config) settings.limit harts because)

-- When each refusal comes: all words of the order are looked at first, then the sizes, each step of
-- the plain machine, the units that are needed, and the limit. The output is refused only
-- where there is a schedule. Of memory nothing is said.
abbrev pub IsScheduleRefusal : Settings → ProgramImage → List ℕ → Refused → Type 0
IsScheduleRefusal settings image order reason.Config = HasNoSchedule settings image order why.Config
IsScheduleRefusal settings image order (reason.Order index) = IsFirstNoHart order index
IsScheduleRefusal settings image order (reason.Step index stopped) =
    HasNoSchedule settings image order (why.Step index stopped)
IsScheduleRefusal settings image order (reason.NoUnit kind) =
    HasNoSchedule settings image order (why.Unit kind)
IsScheduleRefusal settings image order (reason.Limit room) =
    HasNoSchedule settings image order (why.Limit room)
IsScheduleRefusal settings image order reason.Memory = Unit {0}
IsScheduleRefusal settings image order reason.Output =
    (text : List ℕ) × HasSchedule settings image order text
IsScheduleRefusal settings image order _ = ⊥

-- The part of it that the making of the schedule answers.
abbrev pub IsMakingRefusal : Setup → ℕ → List ℕ → Refused → Type 0
IsMakingRefusal setup limit order reason.Config =
    IsScheduleRefusedFor setup limit order why.Config
IsMakingRefusal setup limit order (reason.Step index stopped) =
    IsScheduleRefusedFor setup limit order (why.Step index stopped)
IsMakingRefusal setup limit order (reason.NoUnit kind) =
    IsScheduleRefusedFor setup limit order (why.Unit kind)
IsMakingRefusal setup limit order (reason.Limit room) =
    IsScheduleRefusedFor setup limit order (why.Limit room)
IsMakingRefusal setup limit order reason.Memory = Unit {0}
IsMakingRefusal setup limit order _ = ⊥

-- What the command comes to: a schedule is printed, and the exit status is 0.
pub record ScheduleComesTo (settings : Settings) (image : ProgramImage) (order : List ℕ)
    (old new : Option (List ℕ)) (exit_status : ℕ) : Type 0 where
  pub printed : Prints old new (HasSchedule settings image order)
  pub zero : exit_status ≡ 0
