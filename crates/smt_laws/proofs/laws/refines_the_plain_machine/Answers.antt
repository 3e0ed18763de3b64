use Rattle.smt_laws.proofs.Sequential.{sequential}
use Rattle.smt_laws.proofs.laws.refines_the_plain_machine.Goals as goal

pub returns : goal.returns
returns c = record { sequential = sequential }
