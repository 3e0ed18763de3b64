use Rattle.smt_laws.proofs.Executions.{retires_an_execution, runs_are_executions, executions_are_runs}
use Rattle.smt_laws.proofs.laws.retires_an_execution.Goals as goal

pub returns-clause-histories : goal.returns-clause-histories
returns-clause-histories c = retires_an_execution

pub returns-clause-runs : goal.returns-clause-runs
returns-clause-runs c = runs_are_executions

pub returns-clause-executions : goal.returns-clause-executions
returns-clause-executions c = executions_are_runs
