use Rattle.plain_commands.proofs.OfSchedule.{has_schedule, comes_to}
use Rattle.plain_commands.proofs.schedule.perform_schedule.Goals as goal

pub returns-clause-refused : goal.returns-clause-refused
returns-clause-refused g c = (
  _,
  has_schedule c.args.settings.now c.args.image.now c.args.order.now _ _ _ c.in_ok-harts.ensures.order
      c.as_slice.ensures.value c.in_ok-schedule.ensures.scheduled,
)

pub returns-in-Ok-clause-ended : goal.returns-in-Ok-clause-ended
returns-in-Ok-clause-ended g c =
    comes_to c.args.settings.now c.args.image.now c.args.order.now _ _ _ _ _ c.in_ok-harts.ensures.order
    c.as_slice.ensures.value c.in_ok-schedule.ensures.scheduled c.in-Ok.ensures
