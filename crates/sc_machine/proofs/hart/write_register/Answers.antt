use Rattle.std.proofs.Common.{rules}
use Rattle.sc_machine.proofs.hart.write_register.Goals as goal

pub returns : goal.returns
returns c = search rules

pub returns-else-rd-ne0 : goal.returns-else-rd-ne0
returns-else-rd-ne0 c = search rules

pub returns-in-Some : goal.returns-in-Some
returns-in-Some c = search rules
