use Rattle.litmus_reading.proofs.operands.store_operands.Goals as goal

pub returns-in_err-rs2-clause-only : goal.returns-in_err-rs2-clause-only
returns-in_err-rs2-clause-only c = λ rs2 offset base it.
    absurd (c.in_err-rs2.ensures.only rs2 offset base it)
