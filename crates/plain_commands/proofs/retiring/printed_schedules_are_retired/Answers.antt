use Rattle.plain_commands.proofs.Retired.{printed}
use Rattle.plain_commands.proofs.retiring.printed_schedules_are_retired.Goals as goal

pub returns : goal.returns
returns g c = record { printed = printed g.P.Predict.predicts c.schedules_are_retired.ensures.retired }
