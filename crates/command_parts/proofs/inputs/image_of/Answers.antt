use Rattle.std.proofs.Common.{rules}
use Rattle.command_parts.proofs.inputs.image_of.Goals as goal

pub returns-in-Err-clause-refused : goal.returns-in-Err-clause-refused
returns-in-Err-clause-refused c = search rules
