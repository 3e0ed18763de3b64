use Rattle.smt_laws.proofs.Showing.EachRun.{each_run_is_shown, each_execution_is_shown, accepted_cores_can_show}
use Rattle.smt_laws.proofs.shown.shows_every_run.Goals as goal

pub returns-clause-runs : goal.returns-clause-runs
returns-clause-runs c = each_run_is_shown

pub returns-clause-executions : goal.returns-clause-executions
returns-clause-executions c = each_execution_is_shown

pub returns-clause-accepted : goal.returns-clause-accepted
returns-clause-accepted c = accepted_cores_can_show
