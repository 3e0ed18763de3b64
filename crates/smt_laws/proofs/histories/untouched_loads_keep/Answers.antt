use Rattle.smt_laws.proofs.Untouched.{untouched_read, untouched_keep, nothing_keeps}
use Rattle.smt_laws.proofs.histories.untouched_loads_keep.Goals as goal

pub returns-clause-same : goal.returns-clause-same
returns-clause-same c = untouched_read

pub returns-clause-keep : goal.returns-clause-keep
returns-clause-keep c = untouched_keep

pub returns-clause-nothing : goal.returns-clause-nothing
returns-clause-nothing c = nothing_keeps
