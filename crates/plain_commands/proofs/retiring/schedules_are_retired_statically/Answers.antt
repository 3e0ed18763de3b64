use Rattle.plain_commands.proofs.Retired.{statically}
use Rattle.plain_commands.proofs.retiring.schedules_are_retired_statically.Goals as goal

pub returns : goal.returns
returns c = record {
  retired = statically _ c.schedules_are_retired.ensures.retired;
  printed = statically _ c.printed_schedules_are_retired.ensures.printed;
}
