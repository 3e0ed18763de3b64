use Rattle.litmus_reading.proofs.Made.{makes_other, makes_reserved, spelled_other}
use Rattle.litmus_reading.proofs.operands.of_atomic.Goals as goal

pub returns-in-LoadReserved-clause-only : goal.returns-in-LoadReserved-clause-only
returns-in-LoadReserved-clause-only c = λ ordering.
    makes_reserved c.args.op ordering _ c.reserved_operands.result c.in-LoadReserved.is c.reserved_operands.ensures.only

pub returns-in_default-clause-spelled : goal.returns-in_default-clause-spelled
returns-in_default-clause-spelled c = λ ordering.
    spelled_other c.args.op ordering _ c.atomic_operands.result c.in_default.not-LoadReserved
    c.atomic_operands.ensures.spelled

pub returns-in_default-clause-only : goal.returns-in_default-clause-only
returns-in_default-clause-only c = λ ordering.
    makes_other c.args.op ordering _ c.atomic_operands.result c.in_default.not-LoadReserved
    c.atomic_operands.ensures.only
