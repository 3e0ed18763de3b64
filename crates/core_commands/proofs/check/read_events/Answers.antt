use Rattle.std.proofs.Common.{rules}
use Rattle.core_commands.proofs.check.read_events.Goals as goal

pub returns-in-Err-Line-clause-refused : goal.returns-in-Err-Line-clause-refused
returns-in-Err-Line-clause-refused c = search rules
