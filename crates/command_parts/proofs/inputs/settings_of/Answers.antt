use Rattle.std.proofs.Common.{rules}
use Rattle.command_parts.proofs.inputs.settings_of.Goals as goal

pub returns-in-Err-Memory-clause-refused : goal.returns-in-Err-Memory-clause-refused
returns-in-Err-Memory-clause-refused c = tt

pub returns-in-Err-Refused-clause-refused : goal.returns-in-Err-Refused-clause-refused
returns-in-Err-Refused-clause-refused c = search rules
