use Rattle.std.proofs.Common.{rules}
use Rattle.core_steps.proofs.complete.handed_back.Goals as goal

pub returns-clause-none : goal.returns-clause-none
returns-clause-none c = search rules

pub returns-clause-same : goal.returns-clause-same
returns-clause-same c = search rules

pub returns-clause-some : goal.returns-clause-some
returns-clause-some c = search rules

pub returns-in_err-get-clause-none : goal.returns-in_err-get-clause-none
returns-in_err-get-clause-none c = search rules

pub returns-in_err-get-clause-same : goal.returns-in_err-get-clause-same
returns-in_err-get-clause-same c = search rules

pub returns-in_err-get-clause-some : goal.returns-in_err-get-clause-some
returns-in_err-get-clause-some c = search rules

pub returns-in_err-job-clause-none : goal.returns-in_err-job-clause-none
returns-in_err-job-clause-none c = search rules

pub returns-in_err-job-clause-same : goal.returns-in_err-job-clause-same
returns-in_err-job-clause-same c = search rules

pub returns-in_err-job-clause-some : goal.returns-in_err-job-clause-some
returns-in_err-job-clause-some c = search rules

pub returns-then-not-is_job_of-clause-none : goal.returns-then-not-is_job_of-clause-none
returns-then-not-is_job_of-clause-none c = search rules

pub returns-then-not-is_job_of-clause-same : goal.returns-then-not-is_job_of-clause-same
returns-then-not-is_job_of-clause-same c = search rules

pub returns-then-not-is_job_of-clause-some : goal.returns-then-not-is_job_of-clause-some
returns-then-not-is_job_of-clause-some c = search rules
