use Rattle.std.proofs.Common.{rules}
use Rattle.plain_commands.proofs.plain.run_image.Goals as goal

pub returns-in-Ok-clause-ran : goal.returns-in-Ok-clause-ran
returns-in-Ok-clause-ran c = search rules

pub returns-in-Err-Step-clause-refused : goal.returns-in-Err-Step-clause-refused
returns-in-Err-Step-clause-refused c = search rules
