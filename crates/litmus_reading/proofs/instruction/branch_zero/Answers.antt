use Rattle.litmus_reading.proofs.instruction.branch_zero.Goals as goal

pub returns-in_err-left-clause-only : goal.returns-in_err-left-clause-only
returns-in_err-left-clause-only c = λ op' left right label is last.
    absurd (c.in_err-left.ensures.only left label is.2 last)
