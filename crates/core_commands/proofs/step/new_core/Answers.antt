use Rattle.std.proofs.Common.{rules}
use Rattle.core_commands.proofs.step.new_core.Goals as goal

pub returns-in-Err-Config-clause-refused : goal.returns-in-Err-Config-clause-refused
returns-in-Err-Config-clause-refused c = search rules
