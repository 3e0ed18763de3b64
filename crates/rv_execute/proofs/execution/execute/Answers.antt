use Rattle.std.proofs.Common.{rules}
use Rattle.smt_model.specs.Exec.{exec}
use Rattle.rv_execute.proofs.execution.execute.Goals as goal

pub returns-in-Illegal : goal.returns-in-Illegal
unfolding exec
returns-in-Illegal c = search rules

pub returns-in-Known : goal.returns-in-Known
unfolding exec
returns-in-Known c = search rules

pub returns-in-NoWord : goal.returns-in-NoWord
unfolding exec
returns-in-NoWord c = search rules
