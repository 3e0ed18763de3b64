use Rattle.sc_machine.proofs.Harts.{all_zero}
use Rattle.sc_machine.proofs.hart.zeros.Goals as goal

pub returns : goal.returns
returns c = all_zero 32
