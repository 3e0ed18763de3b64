use Rattle.litmus_reading.proofs.operands.load_operands.Goals as goal

pub returns-in_err-rd-clause-only : goal.returns-in_err-rd-clause-only
returns-in_err-rd-clause-only c = λ rd offset base it.
    absurd (c.in_err-rd.ensures.only rd offset base it)
