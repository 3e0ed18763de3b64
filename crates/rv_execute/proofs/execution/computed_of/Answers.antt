use Rattle.std.proofs.Common.{rules}
use Rattle.smt_model.specs.Exec.{computed_of}
use Rattle.rv_execute.proofs.execution.computed_of.Goals as goal

pub returns-in-Auipc : goal.returns-in-Auipc
unfolding computed_of
returns-in-Auipc c = search rules

pub returns-in-Branch : goal.returns-in-Branch
unfolding computed_of
returns-in-Branch c = search rules

pub returns-in-Ebreak : goal.returns-in-Ebreak
unfolding computed_of
returns-in-Ebreak c = search rules

pub returns-in-Ecall : goal.returns-in-Ecall
unfolding computed_of
returns-in-Ecall c = search rules

pub returns-in-Immediate : goal.returns-in-Immediate
unfolding computed_of
returns-in-Immediate c = search rules

pub returns-in-Jal : goal.returns-in-Jal
unfolding computed_of
returns-in-Jal c = search rules

pub returns-in-Jalr : goal.returns-in-Jalr
unfolding computed_of
returns-in-Jalr c = search rules

pub returns-in-Load : goal.returns-in-Load
unfolding computed_of
returns-in-Load c = search rules

pub returns-in-LoadReserved : goal.returns-in-LoadReserved
unfolding computed_of
returns-in-LoadReserved c = search rules

pub returns-in-Lui : goal.returns-in-Lui
unfolding computed_of
returns-in-Lui c = search rules

pub returns-in-MulDiv : goal.returns-in-MulDiv
unfolding computed_of
returns-in-MulDiv c = search rules

pub returns-in-Register : goal.returns-in-Register
unfolding computed_of
returns-in-Register c = search rules

pub returns-in-Shift : goal.returns-in-Shift
unfolding computed_of
returns-in-Shift c = search rules

pub returns-in-Store : goal.returns-in-Store
unfolding computed_of
returns-in-Store c = search rules

pub returns-in-StoreConditional : goal.returns-in-StoreConditional
unfolding computed_of
returns-in-StoreConditional c = search rules
