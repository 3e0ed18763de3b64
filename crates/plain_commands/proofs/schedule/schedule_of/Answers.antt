use Rattle.std.proofs.Common.{rules}
use Rattle.plain_commands.proofs.schedule.schedule_of.Goals as goal

pub returns-in-Err-Unit-clause-refused : goal.returns-in-Err-Unit-clause-refused
returns-in-Err-Unit-clause-refused c = search rules

pub returns-in-Err-Limit-clause-refused : goal.returns-in-Err-Limit-clause-refused
returns-in-Err-Limit-clause-refused c = search rules
