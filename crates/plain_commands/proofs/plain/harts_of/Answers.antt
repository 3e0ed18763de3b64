use Rattle.std.proofs.Common.{rules}
use Rattle.plain_commands.proofs.plain.harts_of.Goals as goal

pub returns-in-Err-Word-clause-refused : goal.returns-in-Err-Word-clause-refused
returns-in-Err-Word-clause-refused c = search rules
