use Rattle.std.proofs.Common.{rules}
use Rattle.sc_machine.proofs.machine.Plain.registers.Goals as goal

pub returns : goal.returns
returns c = search rules
