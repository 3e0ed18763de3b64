use Rattle.smt_laws.proofs.Chains.{chained}
use Rattle.smt_laws.proofs.laws.follows_the_program.Goals as goal

pub returns : goal.returns
returns c = record { chain = chained }
