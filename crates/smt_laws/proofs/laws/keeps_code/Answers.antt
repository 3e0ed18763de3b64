use Rattle.smt_laws.proofs.FixedCode.{histories_keep_code, steps_keep_code}
use Rattle.smt_laws.proofs.laws.keeps_code.Goals as goal

pub returns-clause-histories : goal.returns-clause-histories
returns-clause-histories c = histories_keep_code

pub returns-clause-steps : goal.returns-clause-steps
returns-clause-steps c = steps_keep_code
