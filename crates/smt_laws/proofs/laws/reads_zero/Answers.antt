use Rattle.smt_laws.proofs.PlainLaws.{reads_zero}
use Rattle.smt_laws.proofs.laws.reads_zero.Goals as goal

pub returns : goal.returns
returns c = record { zero = reads_zero }
