use Rattle.sc_machine.proofs.Running.{from_start}
use Rattle.sc_machine.proofs.laws.goes_on_from_the_start.Goals as goal

pub returns : goal.returns
returns c = from_start
