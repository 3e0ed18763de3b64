use Rattle.smt_laws.proofs.Stated.{moves_by_step, one_each}
use Rattle.smt_laws.proofs.histories.moves_by_steps.Goals as goal

pub returns-clause-steps : goal.returns-clause-steps
returns-clause-steps c = moves_by_step

pub returns-clause-once : goal.returns-clause-once
returns-clause-once c = one_each
