use Rattle.std.proofs.Common.{rules}
use Rattle.core_commands.proofs.step.words_of.Goals as goal

pub returns-in-Err-Word-clause-refused : goal.returns-in-Err-Word-clause-refused
returns-in-Err-Word-clause-refused c = search rules
