use Rattle.smt_laws.proofs.PlainLaws.{steps_alone}
use Rattle.smt_laws.proofs.laws.steps_alone.Goals as goal

pub returns : goal.returns
returns c = record { alone = steps_alone }
