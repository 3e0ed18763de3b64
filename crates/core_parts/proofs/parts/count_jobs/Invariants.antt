use Rattle.std.proofs.Common.{◌≡◌, count_by, take, is_some}
use Rattle.core_parts.proofs.parts.count_jobs.Given as goal

abbrev pub invariant-loop-job : goal.invariant-loop-job
invariant-loop-job l = l.count ≡ count_by is_some (take l.job-index l.jobs)
