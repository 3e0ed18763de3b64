use Rattle.std.proofs.Common.{rules}
use Rattle.sc_machine.proofs.machine.Plain.harts.Goals as goal

pub returns-clause-value : goal.returns-clause-value
returns-clause-value c = search rules
